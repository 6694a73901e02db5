-- Whom the posts of a port's end are for.
use Rattle.std.proofs.Common.{◌≡◌, ℕ, ◌<◌, List, [], ◌∷◌, ◌++◌, All, map, subst, sym}
use Rattle.std.proofs.lemmas.List.Elements.{All-append, All-map, All-nil, All-cons, All-head, All-tail}
use Rattle.port_history.specs.port_model.port_signal.declared.monitor.Monitor.{Monitor}
use Rattle.port_history.specs.Mail.{Sent}
use Rattle.port_links.specs.declared.post.Post.{Post}
use Rattle.port_links.specs.Posts.{sent_of, exit_of, down_of}

sent-below : (n : ℕ) (posts : List Post) → All (λ (m : Sent). m.to < n) (map sent_of posts) → All (λ post. post.to < n) posts
sent-below n [] all = All-nil (λ post. post.to < n)
sent-below n (post ∷ posts) all =
    All-cons (λ post. post.to < n) post posts (All-head (λ m. m.to < n) (sent_of post) (map sent_of posts) all)
    (sent-below n posts (All-tail (λ m. m.to < n) (sent_of post) (map sent_of posts) all))

pub posts-below : (port n : ℕ) (reason linked : List ℕ) (ms : List Monitor) (posts : List Post)
    → map sent_of posts ≡ map (exit_of port reason) linked ++ map (down_of port reason) ms
    → All (λ p. p < n) linked → All (λ m. m.process < n) ms → All (λ post. post.to < n) posts
posts-below port n reason linked ms posts e a b =
    sent-below n posts
    (subst (λ sent. All (λ (m : Sent). m.to < n) sent) (sym e)
    (All-append (λ m. m.to < n) (map (exit_of port reason) linked) (map (down_of port reason) ms)
    (All-map (λ m. m.to < n) (exit_of port reason) linked a)
    (All-map (λ m. m.to < n) (down_of port reason) ms b)))

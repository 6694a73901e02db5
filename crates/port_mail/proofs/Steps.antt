-- The steps of the loops that post.
use Rattle.std.proofs.Common.{◌≡◌, ℕ, ◌+◌, ◌<◌, ◌≤◌, List, [], ◌∷◌, ◌++◌, length, map, drop, sym, ap, ◌∙◌, subst, get_or}
use Rattle.std.specs.List.{flat_map}
use Rattle.std.proofs.lemmas.List.{at_drop_more, at_drop_all}
use Rattle.port_model.specs.declared.effect.Effect.{Effect}
use Rattle.port_links.specs.port_history.Mail.{Sent}
use Rattle.port_links.specs.declared.post.Post.{Post}
use Rattle.port_links.specs.Posts.{sent_of}
use Rattle.port_mail.specs.Ends.{MailEnd, Posts, Grows}
use Rattle.port_mail.proofs.Posting.{Midway, Midway-next, Midway-fails, Midway-end}

-- one post more of a list
module _ (ended : List ℕ) (old now next : List MailEnd) (items rest : List Post) (x : Post) (all : List Sent) where
  first-of : items ≡ x ∷ rest → Midway ended old now (map sent_of items) all → Midway ended old now ((sent_of x ∷ []) ++ map sent_of rest) all
  first-of e m = subst (λ xs. Midway ended old now (map sent_of xs) all) e m

  pub posts-next : items ≡ x ∷ rest → Midway ended old now (map sent_of items) all → Posts ended now next (sent_of x ∷ [])
      → Midway ended old next (map sent_of rest) all
  posts-next e m p = Midway-next ended old now next (sent_of x ∷ []) (map sent_of rest) all (first-of e m) p

  pub posts-fail : items ≡ x ∷ rest → Midway ended old now (map sent_of items) all → Grows ended now next (sent_of x ∷ []) → Grows ended old next all
  posts-fail e m g = Midway-fails ended old now next (sent_of x ∷ []) (map sent_of rest) all (first-of e m) g

-- one effect more of a list
module _ (ended : List ℕ) (old now next : List MailEnd) (f : Effect → List Sent) (xs : List Effect) (i : ℕ) (x : Effect) (all : List Sent) where
  first-left : i < length xs → x ≡ get_or xs i x → flat_map f (drop i xs) ≡ f x ++ flat_map f (drop (i + 1) xs)
  first-left h e = at_drop_more (flat_map f) xs i x h ∙ ap (λ y. f y ++ flat_map f (drop (i + 1) xs)) (sym e)

  pub effects-next : i < length xs → x ≡ get_or xs i x → Midway ended old now (flat_map f (drop i xs)) all → Posts ended now next (f x)
      → Midway ended old next (flat_map f (drop (i + 1) xs)) all
  effects-next h e m p =
      Midway-next ended old now next (f x) (flat_map f (drop (i + 1) xs)) all (subst (λ left. Midway ended old now left all) (first-left h e) m) p

  pub effects-fail : i < length xs → x ≡ get_or xs i x → Midway ended old now (flat_map f (drop i xs)) all → Grows ended now next (f x) → Grows ended old next all
  effects-fail h e m g =
      Midway-fails ended old now next (f x) (flat_map f (drop (i + 1) xs)) all (subst (λ left. Midway ended old now left all) (first-left h e) m) g

pub effects-end : (ended : List ℕ) (old now : List MailEnd) (f : Effect → List Sent) (xs : List Effect) (i : ℕ) (all : List Sent)
    → length xs ≤ i → Midway ended old now (flat_map f (drop i xs)) all → Posts ended old now all
effects-end ended old now f xs i all h m =
    Midway-end ended old now all (subst (λ left. Midway ended old now left all) (at_drop_all (flat_map f) xs i h) m)

-- One monitor more is told.
use Rattle.std.proofs.Common.{◌≡◌, ℕ, List, [], ◌∷◌, ◌++◌, All, map, Some, sym, ap, ◌∙◌, subst, append_assoc, get_or}
use Rattle.std.specs.Map.{keys_of}
use Rattle.std.proofs.lemmas.List.{map-append}
use Rattle.std.proofs.lemmas.List.Elements.{All-head, All-tail}
use Rattle.std.specs.BTreeMap.{BTreeMap, get as key_at}
use Rattle.slab.specs.Slab.{Slab, get as monitor_at}
use Rattle.port_history.specs.port_model.port_signal.declared.monitor.Monitor.{Monitor}
use Rattle.port_history.specs.Mail.{Sent}
use Rattle.port_links.specs.declared.post.Post.{Post}
use Rattle.port_links.specs.Indexed.{monitor_cmp, IsIndexed}
use Rattle.port_links.specs.Posts.{sent_of, down_of}

-- each of these monitors lies under its key
abbrev pub Lie : Slab Monitor → List (Monitor × ℕ) → Type 0
Lie slab es = All (λ e. monitor_at slab e.1 ≡ Some e.0) es

pub all-lie : (slab : Slab Monitor) (index : BTreeMap Monitor ℕ) → IsIndexed slab index → All (λ e. key_at monitor_cmp index e.0 ≡ Some e.1) index.entries → Lie slab index.entries
all-lie slab index indexed all k e within = indexed.inverse.kept (get_or index.entries k e).0 (get_or index.entries k e).1 (all k e within)

pub first-lies : (slab : Slab Monitor) (m : Monitor) (key : ℕ) (es later : List (Monitor × ℕ)) → es ≡ (m, key) ∷ later → Lie slab es → monitor_at slab key ≡ Some m
first-lies slab m key es later e all = All-head (λ e. monitor_at slab e.1 ≡ Some e.0) (m, key) later (subst (Lie slab) e all)

pub later-lie : (slab : Slab Monitor) (m : Monitor) (key : ℕ) (es later : List (Monitor × ℕ)) → es ≡ (m, key) ∷ later → Lie slab es → Lie slab later
later-lie slab m key es later e all = All-tail (λ e. monitor_at slab e.1 ≡ Some e.0) (m, key) later (subst (Lie slab) e all)

pub told-more : (port : ℕ) (reason : List ℕ) (m told : Monitor) (key : ℕ) (es later : List (Monitor × ℕ)) (posts more : List Post) (post : Post) (all : List Sent)
    → es ≡ (m, key) ∷ later → more ≡ posts ++ post ∷ [] → sent_of post ≡ down_of port reason told → Some told ≡ Some m
    → map sent_of posts ++ map (down_of port reason) (keys_of es) ≡ all
    → map sent_of more ++ map (down_of port reason) (keys_of later) ≡ all
told-more port reason m told key es later posts more post all e f is same before =
    let is_told : told ≡ m = cc in
    let rest = map (down_of port reason) (keys_of later) in
    ap (λ ps. map sent_of ps ++ rest) f
    ∙ (ap (λ sent. sent ++ rest) (map-append sent_of posts (post ∷ []))
    ∙ (append_assoc (map sent_of posts) (sent_of post ∷ []) rest
    ∙ (ap (λ sent. map sent_of posts ++ sent ∷ rest) (is ∙ ap (down_of port reason) is_told)
    ∙ (ap (λ es. map sent_of posts ++ map (down_of port reason) (keys_of es)) (sym e) ∙ before))))

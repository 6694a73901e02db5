-- Lists that are made of pairs, place by place.
use Rattle.std.proofs.Common.{arith, ◌≡◌, ◌<◌, ℕ, List, length, map, get_or, ap, ◌∙◌}
use Rattle.std.specs.List.{zip}
use Rattle.std.proofs.lemmas.List.{length-map, get_or-map}
use Rattle.std.proofs.lemmas.Slice.Zip.{length-zip, get_or-zip}

-- there is one for each pair
pub paired-many : {A B C : Type 0} (f : A × B → C) (names : List A) (lefts : List B) → length lefts ≡ length names → length (map f (zip names lefts)) ≡ length names
paired-many f names lefts e = rw (length-map (zip names lefts) f, length-zip names lefts) (omega arith)

-- what is made of the pair at this place
pub paired-at : {A B C : Type 0} (f : A × B → C) (names : List A) (lefts : List B) (k : ℕ) (name : A) (left : B) (d : C) → k < length names → length lefts ≡ length names
    → get_or (map f (zip names lefts)) k d ≡ f (get_or names k name, get_or lefts k left)
paired-at f names lefts k name left d l e =
    let other : k < length lefts = omega (arith, l, e) in
    let within : k < length (zip names lefts) = rw (length-zip names lefts) (omega (arith, l, other)) in
    get_or-map f (zip names lefts) k (name, left) d within ∙ ap f (get_or-zip names lefts k (name, left) l other)

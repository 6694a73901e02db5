-- Lists of reports are as long as their names.
use Rattle.std.proofs.Common.{arith, ◌≡◌, ◌<◌, ◌≤◌, ℕ, List, [], ◌∷◌, length, map, get_or, refl, sym, ap, ◌∙◌}
use Rattle.std.specs.List.{zip}
use Rattle.std.proofs.lemmas.List.{length-map, get_or-map}
use Rattle.std.proofs.lemmas.Slice.Zip.{length-zip, get_or-zip}

-- what is made of pairs is no more than the first list is long
pub few-paired : {A B C : Type 0} (f : A × B → C) (names : List A) (lefts : List B) {most : ℕ} → length names ≤ most → length (map f (zip names lefts)) ≤ most
few-paired f names lefts h = rw (length-map (zip names lefts) f, length-zip names lefts) (omega arith)

pairs-same : {A B : Type 0} (ps : List (A × B)) → map (λ p. (p.0, p.1)) ps ≡ ps
pairs-same [] = refl
pairs-same (p ∷ ps) = ap (λ rest. p ∷ rest) (pairs-same ps)

-- what is made of all pairs
pub paired-all : {A B C : Type 0} (f : A × B → C) (told : List C) (done all : List (A × B)) → told ≡ map f done → map (λ p. (p.0, p.1)) done ≡ all → told ≡ map f all
paired-all f told done all h e = h ∙ ap (map f) (sym (pairs-same done) ∙ e)

-- there is one for each pair
pub paired-many : {A B C : Type 0} (f : A × B → C) (names : List A) (lefts : List B) → length lefts ≡ length names → length (map f (zip names lefts)) ≡ length names
paired-many f names lefts e = rw (length-map (zip names lefts) f, length-zip names lefts) (omega arith)

-- what is made of the pair at this place
pub paired-at : {A B C : Type 0} (f : A × B → C) (names : List A) (lefts : List B) (k : ℕ) (name : A) (left : B) (d : C) → k < length names → length lefts ≡ length names
    → get_or (map f (zip names lefts)) k d ≡ f (get_or names k name, get_or lefts k left)
paired-at f names lefts k name left d l e =
    let other : k < length lefts = omega (arith, l, e) in
    let within : k < length (zip names lefts) = rw (length-zip names lefts) (omega (arith, l, other)) in
    get_or-map f (zip names lefts) k (name, left) d within ∙ ap f (get_or-zip names lefts k (name, left) l other)

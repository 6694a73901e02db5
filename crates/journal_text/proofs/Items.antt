-- Reading item by item, as a loop does.
use Rattle.std.proofs.Common.{◌≡◌, ℕ, suc, ◌-◌, ◌+◌, ◌≤◌, ◌<◌, List, [], ◌∷◌, ◌++◌, Option, Some, None, refl, sym, ap, ◌∙◌, append_assoc, arith}
use Rattle.journal_text.specs.declared.fault.LinePartFault.{LinePartFault}
use Rattle.journal_text.specs.declared.fault.LinePartFault.TheVariants.{Bad, NoMemory}
use Rattle.journal_text.specs.LinePartFault.{Missed}
use Rattle.journal_text.specs.Reading.{◌>>=◌, after}
use Rattle.journal_text.specs.ReadingRows.{some_at}

-- what was read before, and what is still read
abbrev pub with_front : {A : Type 0} → List A → Option (List A × List ℕ) → Option (List A × List ℕ)
with_front front read = read >>= λ x. Some (front ++ x.0, x.1)

regroup : {A : Type 0} (front : List A) (x : A) (read : Option (List A × List ℕ)) → with_front front (read >>= λ y. Some (x ∷ y.0, y.1)) ≡ with_front (front ++ x ∷ []) read
regroup front x (Some y) = ap (λ (xs : List _). Some (xs, y.1)) (simp append_assoc)
regroup front x None = refl

-- an item was read, and a comma and a space
pub goes_on : {A : Type 0} (item : List ℕ → Option (A × List ℕ)) (front : List A) (n i : ℕ) (bytes rest behind next inner : List ℕ) (x : A) → i < n → item rest ≡ Some (x, behind) → after 44 behind ≡ Some next → after 32 next ≡ Some inner
    → with_front front (some_at item (n - i) rest) ≡ some_at item n bytes → with_front (front ++ x ∷ []) (some_at item (n - (i + 1)) inner) ≡ some_at item n bytes
unfolding some_at
goes_on item front n i bytes rest behind next inner x lt h comma space so_far =
    let k : n - i ≡ suc (n - (i + 1)) = omega arith in
    let one : with_front front (some_at item (n - i) rest) ≡ with_front (front ++ x ∷ []) (some_at item (n - (i + 1)) inner) = rw (k, h, comma, space) (regroup front x (some_at item (n - (i + 1)) inner)) in
    sym one ∙ so_far

-- there is no item
pub stops : {A : Type 0} (item : List ℕ → Option (A × List ℕ)) (front : List A) (n i : ℕ) (bytes rest : List ℕ) → i < n → item rest ≡ None
    → with_front front (some_at item (n - i) rest) ≡ some_at item n bytes → some_at item n bytes ≡ None
unfolding some_at
stops item front n i bytes rest lt h so_far =
    let k : n - i ≡ suc (n - (i + 1)) = omega arith in
    let one : with_front front (some_at item (n - i) rest) ≡ None = rw (k, h) refl in
    sym so_far ∙ one

-- an item was read, and a comma with no space behind it
pub no_space : {A : Type 0} (item : List ℕ → Option (A × List ℕ)) (front : List A) (n i : ℕ) (bytes rest behind next : List ℕ) (x : A) → i < n → item rest ≡ Some (x, behind) → after 44 behind ≡ Some next → after 32 next ≡ None
    → with_front front (some_at item (n - i) rest) ≡ some_at item n bytes → some_at item n bytes ≡ None
unfolding some_at
no_space item front n i bytes rest behind next x lt h comma space so_far =
    let k : n - i ≡ suc (n - (i + 1)) = omega arith in
    let one : with_front front (some_at item (n - i) rest) ≡ None = rw (k, h, comma, space) refl in
    sym so_far ∙ one

-- an item was read, and no comma
pub last : {A : Type 0} (item : List ℕ → Option (A × List ℕ)) (front : List A) (n i : ℕ) (bytes rest behind : List ℕ) (x : A) → i < n → item rest ≡ Some (x, behind) → after 44 behind ≡ None
    → with_front front (some_at item (n - i) rest) ≡ some_at item n bytes → some_at item n bytes ≡ Some (front ++ x ∷ [], behind)
unfolding some_at
last item front n i bytes rest behind x lt h comma so_far =
    let k : n - i ≡ suc (n - (i + 1)) = omega arith in
    let one : with_front front (some_at item (n - i) rest) ≡ Some (front ++ x ∷ [], behind) = rw (k, h, comma) refl in
    sym so_far ∙ one

-- there are too many items
pub past : {A : Type 0} (item : List ℕ → Option (A × List ℕ)) (front : List A) (n i : ℕ) (bytes rest : List ℕ) → n ≤ i → with_front front (some_at item (n - i) rest) ≡ some_at item n bytes → some_at item n bytes ≡ None
unfolding some_at
past item front n i bytes rest le so_far =
    let k : n - i ≡ 0 = omega arith in
    let one : with_front front (some_at item (n - i) rest) ≡ None = rw k refl in
    sym so_far ∙ one

-- what was not read stops the whole
pub missed_stops : {Y Z : Type 0} (fault : LinePartFault) (read : Option Y) (whole : Option Z) → Missed fault read → (read ≡ None → whole ≡ None) → Missed fault whole
missed_stops Bad read whole missed stops = stops missed
missed_stops NoMemory read whole missed stops = tt

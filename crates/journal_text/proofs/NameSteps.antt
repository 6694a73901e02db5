-- Reading name by name, as a loop does.
use Rattle.std.proofs.Common.{◌≡◌, ℕ, zero, suc, ◌-◌, ◌+◌, ◌≤◌, ◌<◌, List, [], ◌∷◌, ◌++◌, length, Option, Some, None, refl, sym, ap, ◌∙◌, append_assoc, arith}
use Rattle.std.proofs.lemmas.List.{append-nil}
use Rattle.journal_text.specs.Reading.{◌>>=◌, spaced_at, name_at}
use Rattle.journal_text.specs.ReadingBooks.{names_at}

-- what was read before, and what is still read
abbrev pub with_names_before : List (List ℕ) → Option (List (List ℕ)) → Option (List (List ℕ))
with_names_before front read = read >>= λ x. Some (front ++ x)

regroup : (front : List (List ℕ)) (name : List ℕ) (read : Option (List (List ℕ))) → with_names_before front (read >>= λ y. Some (name ∷ y)) ≡ with_names_before (front ++ name ∷ []) read
regroup front name (Some y) = ap (λ (xs : List (List ℕ)). Some xs) (simp append_assoc)
regroup front name None = refl

names_nil : (n : ℕ) → names_at n [] ≡ Some []
unfolding names_at
names_nil zero = refl
names_nil (suc n) = refl

-- the end of the line
pub names_end : (front : List (List ℕ)) (n i : ℕ) (bytes rest : List ℕ) → rest ≡ [] → with_names_before front (names_at (n - i) rest) ≡ names_at n bytes → names_at n bytes ≡ Some front
names_end front n i bytes rest e so_far =
    let one : names_at (n - i) rest ≡ Some [] = ap (names_at (n - i)) e ∙ names_nil (n - i) in
    sym so_far ∙ ap (with_names_before front) one ∙ ap (λ (xs : List (List ℕ)). Some xs) (append-nil front)

names_some : (n : ℕ) (bytes : List ℕ) → 0 < length bytes → names_at (suc n) bytes ≡ (spaced_at name_at bytes >>= λ first. (names_at n first.1 >>= λ others. Some (first.0 ∷ others)))
unfolding names_at
names_some n [] some = absurd (omega arith)
names_some n (byte ∷ bytes) some = refl

-- a name
pub names_next : (front : List (List ℕ)) (n i : ℕ) (bytes rest behind : List ℕ) (name : List ℕ) → i < n → 0 < length rest → spaced_at name_at rest ≡ Some (name, behind)
    → with_names_before front (names_at (n - i) rest) ≡ names_at n bytes → with_names_before (front ++ name ∷ []) (names_at (n - (i + 1)) behind) ≡ names_at n bytes
names_next front n i bytes rest behind name lt some read so_far =
    let k : n - i ≡ suc (n - (i + 1)) = omega arith in
    let one : names_at (n - i) rest ≡ (names_at (n - (i + 1)) behind >>= λ others. Some (name ∷ others)) = rw k (names_some (n - (i + 1)) rest some ∙ rw read refl) in
    sym (regroup front name (names_at (n - (i + 1)) behind)) ∙ ap (with_names_before front) (sym one) ∙ so_far

-- no name
pub names_stop : (front : List (List ℕ)) (n i : ℕ) (bytes rest : List ℕ) → i < n → 0 < length rest → spaced_at name_at rest ≡ None
    → with_names_before front (names_at (n - i) rest) ≡ names_at n bytes → names_at n bytes ≡ None
names_stop front n i bytes rest lt some read so_far =
    let k : n - i ≡ suc (n - (i + 1)) = omega arith in
    let one : names_at (n - i) rest ≡ None = rw k (names_some (n - (i + 1)) rest some ∙ rw read refl) in
    sym so_far ∙ ap (with_names_before front) one

names_zero : (bytes : List ℕ) → 0 < length bytes → names_at 0 bytes ≡ None
unfolding names_at
names_zero [] some = absurd (omega arith)
names_zero (byte ∷ bytes) some = refl

-- too many names
pub names_past : (front : List (List ℕ)) (n i : ℕ) (bytes rest : List ℕ) → n ≤ i → 0 < length rest → with_names_before front (names_at (n - i) rest) ≡ names_at n bytes → names_at n bytes ≡ None
names_past front n i bytes rest le some so_far =
    let k : n - i ≡ 0 = omega arith in
    let one : names_at (n - i) rest ≡ None = rw k (names_zero rest some) in
    sym so_far ∙ ap (with_names_before front) one

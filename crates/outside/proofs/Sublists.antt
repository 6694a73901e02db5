-- Sublists of a list of events.
use Rattle.std.proofs.Common.{◌≡◌, ℕ, zero, suc, ◌≤◌, Bool, true, false, inl, inr, List, [], ◌∷◌, filter, count_by, Contains, cond, refl, sym, ◌∙◌, arith}
use Rattle.std.specs.List.{AllByRecursion, IsDistinct}
use Rattle.std.proofs.lemmas.List.Sums.{sum_by-cons}
use Rattle.outside.specs.Sublist.{IsSublist}

-- a list is a sublist of itself
pub IsSublist-refl : (xs : List ℕ) → IsSublist xs xs
IsSublist-refl [] = tt
IsSublist-refl (x ∷ xs) = inl (refl, IsSublist-refl xs)

-- what a sublist leaves out in front
pub IsSublist-skip : (xs ys : List ℕ) (y : ℕ) → IsSublist xs ys → IsSublist xs (y ∷ ys)
IsSublist-skip [] ys y part = tt
IsSublist-skip (x ∷ xs) ys y part = inr part

-- the elements that pass a test are a sublist
pub IsSublist-filter : (p : ℕ → Bool) (xs : List ℕ) → IsSublist (filter p xs) xs
IsSublist-filter p [] = tt
IsSublist-filter p (x ∷ xs) =
    elim (p x) as (λ b. IsSublist (cond b (x ∷ filter p xs) (filter p xs)) (x ∷ xs)) [
      | true ↦ inl (refl, IsSublist-filter p xs)
      | false ↦ IsSublist-skip (filter p xs) xs x (IsSublist-filter p xs)
    ]

-- no event stands in a sublist more often than in the list, so one that stands once there stands at most once
pub IsSublist-count : (p : ℕ → Bool) (xs ys : List ℕ) → IsSublist xs ys → count_by p xs ≤ count_by p ys
IsSublist-count p [] ys part = omega arith
IsSublist-count p (x ∷ xs) [] part = absurd part
IsSublist-count p (x ∷ xs) (y ∷ ys) (inl (same, part)) =
    let fewer = IsSublist-count p xs ys part in
    rw (same, sum_by-cons (λ z. cond (p z) 1 0) y xs, sum_by-cons (λ z. cond (p z) 1 0) y ys) (omega (arith, fewer))
IsSublist-count p (x ∷ xs) (y ∷ ys) (inr part) =
    let fewer = IsSublist-count p (x ∷ xs) ys part in
    rw (sum_by-cons (λ z. cond (p z) 1 0) y ys) (omega (arith, fewer))

-- what stands in a sublist stands in the list
pub IsSublist-Contains : (xs ys : List ℕ) (x : ℕ) → IsSublist xs ys → Contains xs x → Contains ys x
IsSublist-Contains [] ys x part (k, within, here) = absurd (omega arith)
IsSublist-Contains (z ∷ zs) [] x part found = absurd part
IsSublist-Contains (z ∷ zs) (y ∷ ys) x (inl (same, part)) (zero, within, here) = (0, omega arith, sym same ∙ here)
IsSublist-Contains (z ∷ zs) (y ∷ ys) x (inl (same, part)) (suc k, within, here) =
    let (j, below, there) = IsSublist-Contains zs ys x part (k, omega arith, here) in (suc j, omega arith, there)
IsSublist-Contains (z ∷ zs) (y ∷ ys) x (inr part) found =
    let (j, below, there) = IsSublist-Contains (z ∷ zs) ys x part found in (suc j, omega arith, there)

all-part : (P : ℕ → Type 0) (xs ys : List ℕ) → IsSublist xs ys → AllByRecursion P ys → AllByRecursion P xs
all-part P [] ys part all = tt
all-part P (x ∷ xs) [] part all = absurd part
all-part P (x ∷ xs) (y ∷ ys) (inl (same, part)) all = (rw same all.0, all-part P xs ys part all.1)
all-part P (x ∷ xs) (y ∷ ys) (inr part) all = all-part P (x ∷ xs) ys part all.1

-- a sublist of distinct events is distinct
pub IsSublist-distinct : (e : ℕ → ℕ → Bool) (xs ys : List ℕ) → IsSublist xs ys → IsDistinct e ys → IsDistinct e xs
unfolding IsDistinct
IsSublist-distinct e [] ys part once = tt
IsSublist-distinct e (x ∷ xs) [] part once = absurd part
IsSublist-distinct e (x ∷ xs) (y ∷ ys) (inl (same, part)) once =
    (rw same (all-part (λ z. e y z ≡ false) xs ys part once.0), IsSublist-distinct e xs ys part once.1)
IsSublist-distinct e (x ∷ xs) (y ∷ ys) (inr part) once = IsSublist-distinct e (x ∷ xs) ys part once.1

-- Sums over the numbers of ports.
use Rattle.std.proofs.Common.{arith, ◌≡◌, ℕ, zero, suc, ◌+◌, ◌<◌, ◌≤◌, List, [], ◌∷◌, length, get_or, Bool, true, false, eqb, cond, refl, sym, ap, ◌∙◌, ◌⊎◌, inl, inr}
use Rattle.std.specs.Prelude.{sum_by}
use Rattle.std.proofs.lemmas.Bool.{cases_lt, eq-eqb, eqb-true, true≢false}
use Rattle.std.proofs.lemmas.List.Sums.{sum_by-cons}

-- the sum of a number of each place from the first one on
abbrev pub total : (ℕ → ℕ) → ℕ → ℕ → ℕ
total f from zero = 0
total f from (suc n) = f from + total f (suc from) n

pub total-same : (f g : ℕ → ℕ) → ((k : ℕ) → f k ≡ g k) → (from n : ℕ) → total f from n ≡ total g from n
total-same f g same from zero = refl
total-same f g same from (suc n) =
    let here = same from in
    let later = total-same f g same (suc from) n in
    omega (arith, here, later)

pub total-none : (f : ℕ → ℕ) → ((k : ℕ) → f k ≡ 0) → (from n : ℕ) → total f from n ≡ 0
total-none f none from zero = refl
total-none f none from (suc n) =
    let here = none from in
    let later = total-none f none (suc from) n in
    omega (arith, here, later)

pub total-both : (f g : ℕ → ℕ) (from n : ℕ) → total (λ k. f k + g k) from n ≡ total f from n + total g from n
total-both f g from zero = refl
total-both f g from (suc n) =
    let later = total-both f g (suc from) n in
    omega (arith, later)

-- a number that stands at one place alone
abbrev pub at_place : ℕ → ℕ → ℕ → ℕ
at_place place value k = cond (eqb place k) value 0

before : (place value from n : ℕ) → place < from → total (at_place place value) from n ≡ 0
before place value from zero lt = refl
before place value from (suc n) lt = go (eqb place from) refl (before place value (suc from) n (omega (arith, lt))) where
  go : (b : Bool) → eqb place from ≡ b → total (at_place place value) (suc from) n ≡ 0 → cond b value 0 + total (at_place place value) (suc from) n ≡ 0
  go true is later = absurd (let same = eqb-true place from is in omega (arith, lt, same))
  go false is later = omega (arith, later)

above : (from place : ℕ) → from ≤ place → eqb place from ≡ false → suc from ≤ place
above from place low apart = at (cases_lt from place) where
  at : (from < place) ⊎ (place ≤ from) → suc from ≤ place
  at (inl lt) = omega (arith, lt)
  at (inr le) = absurd (true≢false (sym (eq-eqb place from (omega (arith, low, le))) ∙ apart))

pub total-at : (place value from n : ℕ) → from ≤ place → place < from + n → total (at_place place value) from n ≡ value
total-at place value from zero low high = absurd (omega (arith, low, high))
total-at place value from (suc n) low high = go (eqb place from) refl (λ le. total-at place value (suc from) n le (omega (arith, high))) where
  go : (b : Bool) → eqb place from ≡ b → (suc from ≤ place → total (at_place place value) (suc from) n ≡ value) → cond b value 0 + total (at_place place value) (suc from) n ≡ value
  go true is rest =
      let same = eqb-true place from is in
      let later = before place value (suc from) n (omega (arith, same)) in
      omega (arith, later)
  go false is rest =
      let later = rest (above from place low is) in
      omega (arith, later)

-- a sum over a list, place by place
pub total-list : {X : Type 0} (f : X → ℕ) (g : ℕ → ℕ) (from : ℕ) (xs : List X) → ((k : ℕ) (d : X) → k < length xs → f (get_or xs k d) ≡ g (from + k)) → sum_by f xs ≡ total g from (length xs)
total-list f g from [] each = refl
total-list f g from (x ∷ xs) each =
    let cons = sum_by-cons f x xs in
    let first : from + 0 ≡ from = omega arith in
    let here : f x ≡ g from = each 0 x (omega arith) ∙ ap g first in
    let later = total-list f g (suc from) xs (λ k d lt. each (suc k) d (omega (arith, lt)) ∙ ap g (shift k)) in
    omega (arith, cons, here, later)
  where
    shift : (k : ℕ) → from + suc k ≡ suc from + k
    shift k = omega arith

-- `once_below` on each side of its bound, and the counts of a list of numbers.
use Rattle.std.proofs.Common.{◌≡◌, ℕ, ◌+◌, ◌<◌, ◌≤◌, ◌≢◌, List, [], ◌∷◌, ◌++◌, eqb, eq-eqb, ne_eqb, ap, arith, lt_of_not-le}
use Rattle.std.proofs.lemmas.Bool.{lt-ltb, le-ltb}
use Rattle.std.proofs.lemmas.List.Sums.{sum_by_push, sum_by-append}
use Rattle.port_words.specs.sums.Counts.{times, once_below, one_if}
use mathlib.Core.Logic.{dite}
use native.Mathlib.Decide.{dec_le, ℕ_discrete}

pub once_below-yes : (bound n : ℕ) → n < bound → once_below bound n ≡ 1
once_below-yes bound n lt = ap (λ b. one_if b) (lt-ltb n bound lt)

pub once_below-not : (bound n : ℕ) → bound ≤ n → once_below bound n ≡ 0
once_below-not bound n le = ap (λ b. one_if b) (le-ltb n bound le)

-- 1 where the numbers are one, and else 0
pub same_number : (n k : ℕ) → n ≡ k → one_if (eqb n k) ≡ 1
same_number n k same = ap (λ b. one_if b) (eq-eqb n k same)

pub other_number : (n k : ℕ) → n ≢ k → one_if (eqb n k) ≡ 0
other_number n k differ = ap (λ b. one_if b) (ne_eqb n k differ)

-- one more number is below the next bound
pub once_below-step : (n k : ℕ) → one_if (eqb n k) + once_below n k ≡ once_below (n + 1) k
once_below-step n k = dite (ℕ_discrete n k)
    (λ same. omega (arith, same_number n k same, once_below-not n k (omega arith), once_below-yes (n + 1) k (omega arith)))
    (λ differ. dite (dec_le n k)
    (λ le. omega (arith, other_number n k differ, once_below-not n k le, once_below-not (n + 1) k (omega arith)))
    (λ gt. omega (arith, other_number n k differ, once_below-yes n k (lt_of_not-le gt), once_below-yes (n + 1) k (let lt : k < n = lt_of_not-le gt in omega arith))))

-- two tests that hold together count the same
pub same_test : (a b c d : ℕ) → (a ≡ b → c ≡ d) → (c ≡ d → a ≡ b) → one_if (eqb a b) ≡ one_if (eqb c d)
same_test a b c d there back = dite (ℕ_discrete a b)
    (λ same. omega (arith, same_number a b same, same_number c d (there same)))
    (λ differ. omega (arith, other_number a b differ, other_number c d (λ e. differ (back e))))

pub is_one : (a b : ℕ) → 1 ≤ one_if (eqb a b) → a ≡ b
is_one a b h = dite (ℕ_discrete a b) (λ same. same) (λ differ. let no = other_number a b differ in absurd (omega arith))

-- one more number in a list
pub times-push : (n : ℕ) (xs : List ℕ) (x : ℕ) → times n (xs ++ x ∷ []) ≡ times n xs + one_if (eqb x n)
times-push n xs x = sum_by_push (λ y. one_if (eqb y n)) xs x

pub times-append : (n : ℕ) (xs ys : List ℕ) → times n (xs ++ ys) ≡ times n xs + times n ys
times-append n xs ys = sum_by-append (λ y. one_if (eqb y n)) xs ys

pub once_below-le : (bound n : ℕ) → once_below bound n ≤ 1
once_below-le bound n = dite (dec_le bound n) (λ le. omega (arith, once_below-not bound n le)) (λ gt. omega (arith, once_below-yes bound n (lt_of_not-le gt)))

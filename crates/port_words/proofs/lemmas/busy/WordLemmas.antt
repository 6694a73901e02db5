-- The period and the bytes of a word after an add and after a removal.
use Rattle.std.proofs.Common.{◌≡◌, ℕ, ◌+◌, ◌-◌, ◌*◌, ◌%◌, ◌^◌, ◌<◌, ◌≤◌, ◌⊎◌, Bool, true, false, ◌&&◌, eqb, nat_lt, ap, sym, refl, arith, inl, inr, ⊎_elim, lt_of_not-le, true≢false, eq-eqb, ne_eqb, ◌∙◌}
use Rattle.std.specs.Prelude.{nat_le}
use Rattle.std.proofs.lemmas.Bool.{le-leb, lt-leb, lt-ltb, le-ltb}
use mathlib.Core.Logic.{dite}
use native.Mathlib.Decide.{dec_le, ℕ_discrete}
use Rattle.port_words.specs.sums.Counts.{one_if}
use Rattle.port_words.specs.declared.busy.view.QueueLimits.{QueueLimits}
use Rattle.port_words.specs.busy.Queue.{period_of, bytes_of, fills, frees, added, taken}

sum_parts : (x n k : ℕ) → bytes_of x + n < 2 ^ 40 → (period_of (x + n + 2 ^ 40 * k) ≡ period_of x + k) × (bytes_of (x + n + 2 ^ 40 * k) ≡ bytes_of x + n)
sum_parts x n k room = (omega arith, omega arith)

difference_parts : (x n k : ℕ) → n ≤ bytes_of x → (period_of (x - n + 2 ^ 40 * k) ≡ period_of x + k) × (bytes_of (x - n + 2 ^ 40 * k) ≡ bytes_of x - n)
difference_parts x n k within = (omega arith, omega arith)

pub added_parts : (l : QueueLimits) (x n : ℕ) → bytes_of x + n < 2 ^ 40 → (period_of (added l x n) ≡ period_of x + one_if (fills l x n)) × (bytes_of (added l x n) ≡ bytes_of x + n)
added_parts l x n room = sum_parts x n (one_if (fills l x n)) room

pub taken_parts : (l : QueueLimits) (x n : ℕ) → n ≤ bytes_of x → (period_of (taken l x n) ≡ period_of x + one_if (frees l x n)) × (bytes_of (taken l x n) ≡ bytes_of x - n)
taken_parts l x n within = difference_parts x n (one_if (frees l x n)) within

-- an add fills the queue, or it does not
pub record Fills (l : QueueLimits) (x n : ℕ) : Type 0 where
  pub period : period_of (added l x n) ≡ period_of x + 1
  pub on : l.on ≡ true
  pub even : period_of x % 2 ≡ 0
  pub high : l.high ≤ bytes_of x + n

pub record FillsNot (l : QueueLimits) (x n : ℕ) : Type 0 where
  pub period : period_of (added l x n) ≡ period_of x
  pub below : l.on ≡ true → period_of x % 2 ≡ 0 → bytes_of x + n < l.high

fill_test : (on : Bool) (rest bytes high : ℕ) → ((on && (eqb rest 0 && nat_le high bytes) ≡ true) × (on ≡ true) × (rest ≡ 0) × (high ≤ bytes)) ⊎ ((on && (eqb rest 0 && nat_le high bytes) ≡ false) × (on ≡ true → rest ≡ 0 → bytes < high))
fill_test false rest bytes high = inr (refl, λ e. absurd (true≢false (sym e)))
fill_test true rest bytes high = dite (ℕ_discrete rest 0)
    (λ zero'. dite (dec_le high bytes)
    (λ le. inl ((λ i. eq-eqb rest 0 zero' i && le-leb high bytes le i), refl, zero', le))
    (λ gt. inr ((λ i. eq-eqb rest 0 zero' i && lt-leb high bytes (lt_of_not-le gt) i), λ e z. lt_of_not-le gt)))
    (λ other. inr ((λ i. ne_eqb rest 0 other i && nat_le high bytes), λ e z. absurd (other z)))

pub fill_cases : (l : QueueLimits) (x n : ℕ) → bytes_of x + n < 2 ^ 40 → Fills l x n ⊎ FillsNot l x n
fill_cases l x n room =
    let parts = (added_parts l x n room).0 in
    ⊎_elim
    (λ t. inl (record { period = parts ∙ ap (λ b. period_of x + one_if b) t.0; on = t.1; even = t.2; high = t.3 }))
    (λ t. inr (record { period = (let same : period_of x + one_if (fills l x n) ≡ period_of x + 0 = ap (λ b. period_of x + one_if b) t.0 in omega arith); below = t.1 }))
    (fill_test l.on (period_of x % 2) (bytes_of x + n) l.high)

-- a removal frees the queue, or it does not
pub record Frees (l : QueueLimits) (x n : ℕ) : Type 0 where
  pub period : period_of (taken l x n) ≡ period_of x + 1
  pub odd : period_of x % 2 ≡ 1
  pub low : bytes_of x - n < l.low

pub record FreesNot (l : QueueLimits) (x n : ℕ) : Type 0 where
  pub period : period_of (taken l x n) ≡ period_of x
  pub above : period_of x % 2 ≡ 1 → l.low ≤ bytes_of x - n

free_test : (rest bytes low : ℕ) → (((eqb rest 1 && nat_lt bytes low) ≡ true) × (rest ≡ 1) × (bytes < low)) ⊎ (((eqb rest 1 && nat_lt bytes low) ≡ false) × (rest ≡ 1 → low ≤ bytes))
free_test rest bytes low = dite (ℕ_discrete rest 1)
    (λ one. dite (dec_le low bytes)
    (λ le. inr ((λ i. eq-eqb rest 1 one i && le-ltb bytes low le i), λ e. le))
    (λ gt. inl ((λ i. eq-eqb rest 1 one i && lt-ltb bytes low (lt_of_not-le gt) i), one, lt_of_not-le gt)))
    (λ other. inr ((λ i. ne_eqb rest 1 other i && nat_lt bytes low), λ e. absurd (other e)))

pub free_cases : (l : QueueLimits) (x n : ℕ) → n ≤ bytes_of x → Frees l x n ⊎ FreesNot l x n
free_cases l x n within =
    let parts = (taken_parts l x n within).0 in
    ⊎_elim
    (λ t. inl (record { period = parts ∙ ap (λ b. period_of x + one_if b) t.0; odd = t.1; low = t.2 }))
    (λ t. inr (record { period = (let same : period_of x + one_if (frees l x n) ≡ period_of x + 0 = ap (λ b. period_of x + one_if b) t.0 in omega arith); above = t.1 }))
    (free_test (period_of x % 2) (bytes_of x - n) l.low)

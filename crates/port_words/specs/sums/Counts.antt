-- Counts that the rules over views are made of.
use Rattle.std.specs.Prelude.{ℕ, Bool, List, ◌==◌, nat_lt, count_by, if◌then◌else◌}

-- how often n stands in the list
abbrev pub times : ℕ → List ℕ → ℕ
times n xs = count_by (λ x. x == n) xs

-- 1 of each number below the bound, and else 0
abbrev pub once_below : ℕ → ℕ → ℕ
once_below bound n = if nat_lt n bound then 1 else 0

abbrev pub one_if : Bool → ℕ
one_if b = if b then 1 else 0

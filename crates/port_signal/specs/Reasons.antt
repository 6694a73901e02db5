-- The reasons for which ports and processes end.
use Rattle.std.specs.Prelude.{ℕ, List, Bool, codes, nat_eq, if◌then◌else◌}
use Rattle.std.specs.Cmp.Lexicographic.{pointwise}

-- the reason of an end that is no failure
abbrev pub is_normal : List ℕ → Bool
is_normal reason = pointwise nat_eq reason (codes "normal")

-- the reason with which nothing that is queued is flushed
abbrev pub is_kill : List ℕ → Bool
is_kill reason = pointwise nat_eq reason (codes "kill")

-- the reason that others are told: `kill` is told as `killed`
abbrev pub told_reason : List ℕ → List ℕ
told_reason reason = if is_kill reason then codes "killed" else reason

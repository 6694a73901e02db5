use Rattle.std.proofs.Common.{◌≡◌, ◌≤◌, length, drop}
use Rattle.gateway_script.proofs.words.is_same.Given as goal

-- what stands from the place on is the same
abbrev pub invariant-loop-place : goal.invariant-loop-place
invariant-loop-place l = record { same : drop l.place l.left ≡ drop l.place l.right; within : l.place ≤ length l.left }

abbrev pub decreases-loop-place : goal.decreases-loop-place
decreases-loop-place l = l.place

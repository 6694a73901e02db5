use Rattle.std.proofs.Common.{◌≤◌}
use Rattle.lane_tests.proofs.framing.told.Given as goal

abbrev pub invariant-loop-at : goal.invariant-loop-at
invariant-loop-at l = l.from ≤ l.at

use Rattle.std.proofs.Common.{◌≡◌, take}
use Rattle.lane_tests.proofs.lanes.put_each.Given as goal

abbrev pub invariant-loop-value : goal.invariant-loop-value
invariant-loop-value g l = l.end ≡ record l.initial.end { sent = take l.value-index l.values }

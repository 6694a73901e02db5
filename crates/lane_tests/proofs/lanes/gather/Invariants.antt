use Rattle.std.proofs.Common.{◌≡◌}
use Rattle.lane_tests.proofs.lanes.gather.Given as goal

-- the items are those that were taken, and nothing else of the end changes
abbrev pub invariant-loop : goal.invariant-loop
invariant-loop g l = record {
  kept : l.items.items ≡ l.end.taken;
  same : l.end ≡ record l.initial.end { taken = l.end.taken };
}

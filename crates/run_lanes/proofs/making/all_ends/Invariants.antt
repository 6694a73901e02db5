use Rattle.std.proofs.Common.{◌≡◌}
use Rattle.run_lanes.proofs.Ends.{AreOthers}
use Rattle.run_lanes.proofs.making.all_ends.Given as goal

abbrev pub invariant-ends : goal.invariant-ends
invariant-ends g l = (l.first ≡ record l.fn.first { made = l.counter }) × AreOthers l.fn.first l.counter l.all.items

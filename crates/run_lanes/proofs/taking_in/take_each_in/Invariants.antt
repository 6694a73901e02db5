use Rattle.std.proofs.Common.{◌≤◌, length}
use Rattle.run_lanes.proofs.Places.{IsRest}
use Rattle.run_lanes.proofs.TakingIn.{TakesBelow}
use Rattle.run_lanes.proofs.taking_in.take_each_in.Given as goal

abbrev pub invariant-ends : goal.invariant-ends
invariant-ends g l =
    TakesBelow l.lane l.fn.takers.items l.fn.ends.items l.takers.items
    × IsRest l.lane l.fn.ends.items l.end-iterator.rest.items l.end-iterator.rest.len
    × (l.lane ≤ length l.fn.ends.items)

use Rattle.std.proofs.Common.{◌≤◌, length}
use Rattle.closed_ports.proofs.Places.{IsRest}
use Rattle.closed_ports.proofs.TakingIn.{TakeBelow}
use Rattle.closed_ports.proofs.taking_in.take_in_ends.Given as goal

abbrev pub invariant-ends : goal.invariant-ends
invariant-ends g l =
    TakeBelow l.port l.fn.bodies.items l.fn.ends.items l.bodies.items
    × IsRest l.port l.fn.ends.items l.end-iterator.rest.items l.end-iterator.rest.len
    × (l.port ≤ length l.fn.ends.items)

use Rattle.std.proofs.Common.{◌≡◌, [], length}
use Rattle.port_sched.specs.Waking.{Woke}
use Rattle.sched_load.proofs.putter.put_round.Given as goal

abbrev pub invariant-ports : goal.invariant-ports
invariant-ports g l = (length l.lanes.items ≡ length l.fn.lanes.items) × Woke [] l.fn.seats l.seats

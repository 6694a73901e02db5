use Rattle.std.proofs.Common.{◌≡◌, [], length}
use Rattle.port_sched.specs.Waking.{Woke}
use Rattle.sched_load.proofs.putter.put_all.Given as goal

abbrev pub invariant-numbers : goal.invariant-numbers
invariant-numbers g l = (length l.lanes.items ≡ length l.fn.lanes.items) × Woke [] l.fn.seats l.seats

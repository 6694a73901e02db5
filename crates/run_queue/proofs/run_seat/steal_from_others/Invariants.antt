use Rattle.std.proofs.Common.{◌≡◌}
use Rattle.run_queue.specs.Seats.{OthersSawEmpty}
use Rattle.run_queue.proofs.run_seat.steal_from_others.Given as goal

abbrev pub invariant-others : goal.invariant-others
invariant-others g l = (l.deques.items ≡ l.fn.deques.items) × OthersSawEmpty l.own l.number l.fn.deques.items

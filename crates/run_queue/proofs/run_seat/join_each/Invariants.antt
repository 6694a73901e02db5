use Rattle.std.proofs.Common.{◌≡◌, ◌++◌, List, length, vec_len}
use Rattle.run_queue.specs.Seats.{DequeKnown}
use Rattle.run_queue.proofs.SeatLemmas.{joined_from}
use Rattle.run_queue.proofs.run_seat.join_each.Given as goal

abbrev pub invariant-deques : goal.invariant-deques
invariant-deques l =
    (l.deques.items ≡ joined_from (length l.others.items) l.fn.deques.items l.fn.others.items)
    × ((done : List DequeKnown) × (l.others.items ++ done ≡ l.fn.others.items))

abbrev pub decreases-deques : goal.decreases-deques
decreases-deques l = vec_len l.others

use Rattle.std.proofs.Common.{◌∷◌, map, vec_len}
use Rattle.std.specs.List.{All}
use Rattle.crossbeam_deque.specs.Handles.{worker_deque, worker_view}
use Rattle.run_queue.specs.Ends.{IsGuestOf, guest_view}
use Rattle.run_queue.specs.Seats.{IsSameAccount}
use Rattle.run_queue.proofs.deque_end.absorb_all.Given as goal

abbrev pub invariant-guests : goal.invariant-guests
invariant-guests l =
    All (IsGuestOf (worker_deque l.owner)) l.guests.items
    × IsSameAccount (worker_view l.fn.owner ∷ map guest_view l.fn.guests.items) (worker_view l.owner ∷ map guest_view l.guests.items)

abbrev pub decreases-guests : goal.decreases-guests
decreases-guests l = vec_len l.guests

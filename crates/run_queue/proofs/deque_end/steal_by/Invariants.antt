use Rattle.std.proofs.Common.{◌≡◌}
use Rattle.crossbeam_deque.specs.Handles.{stealer_deque, IsPassOf}
use Rattle.run_queue.specs.Ends.{guest_view}
use Rattle.run_queue.proofs.deque_end.steal_by.Given as goal

abbrev pub invariant-tries : goal.invariant-tries
invariant-tries g l = IsPassOf (stealer_deque l.thief) l.guest × (guest_view l.guest ≡ guest_view l.initial.guest)

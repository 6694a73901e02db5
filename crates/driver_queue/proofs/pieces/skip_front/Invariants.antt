use Rattle.std.proofs.Common.{◌≡◌, ◌+◌, ◌≤◌, length}
use Rattle.std.specs.List.{concat}
use Rattle.std.specs.VecDeque.{deque_len, deque_capacity}
use Rattle.io_vector.specs.Segments.{segments_past}
use Rattle.driver_queue.proofs.pieces.skip_front.Given as goal

abbrev pub invariant-loop-left : goal.invariant-loop-left
invariant-loop-left l =
    (segments_past l.left l.pieces.items ≡ segments_past l.count l.fn.pieces.items)
    × (l.left ≤ length (concat l.pieces.items))
    × (deque_len l.pieces ≤ deque_len l.fn.pieces)
    × (deque_capacity l.pieces ≡ deque_capacity l.fn.pieces)

abbrev pub decreases-loop-left : goal.decreases-loop-left
decreases-loop-left l = l.left + deque_len l.pieces

use Rattle.std.proofs.Common.{◌≡◌, ◌+◌, ◌++◌}
use Rattle.std.specs.Vec.{vec_len}
use Rattle.std.specs.VecDeque.{deque_len, deque_capacity}
use Rattle.driver_queue.proofs.pieces.push_all_front.Given as goal

abbrev pub invariant-loop-piece : goal.invariant-loop-piece
invariant-loop-piece l =
    (l.more.items ++ l.pieces.items ≡ l.fn.more.items ++ l.fn.pieces.items)
    × (deque_len l.pieces + vec_len l.more ≡ deque_len l.fn.pieces + vec_len l.fn.more)
    × (deque_capacity l.pieces ≡ deque_capacity l.fn.pieces)

abbrev pub decreases-loop-piece : goal.decreases-loop-piece
decreases-loop-piece l = vec_len l.more

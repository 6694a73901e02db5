use Rattle.std.proofs.Common.{◌≡◌, ◌+◌, ◌++◌, length}
use Rattle.std.specs.Vec.{vec_len}
use Rattle.std.specs.Vec.Iter.{into_iter_items}
use Rattle.std.specs.VecDeque.{deque_len, deque_capacity}
use Rattle.driver_queue.proofs.pieces.push_all_back.Given as goal

abbrev pub invariant-loop-piece : goal.invariant-loop-piece
invariant-loop-piece l =
    (l.pieces.items ++ into_iter_items l.piece-iterator ≡ l.fn.pieces.items ++ l.fn.more.items)
    × (deque_len l.pieces + length (into_iter_items l.piece-iterator) ≡ deque_len l.fn.pieces + vec_len l.fn.more)
    × (deque_capacity l.pieces ≡ deque_capacity l.fn.pieces)

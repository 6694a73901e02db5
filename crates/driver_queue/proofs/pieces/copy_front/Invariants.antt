use Rattle.std.proofs.Common.{◌≡◌, ◌++◌, take}
use Rattle.std.specs.List.{concat}
use Rattle.std.specs.VecDeque.Iter.{deque_iter_rest}
use Rattle.driver_queue.proofs.pieces.copy_front.Given as goal

abbrev pub invariant-loop-piece : goal.invariant-loop-piece
invariant-loop-piece l =
    l.bytes.items ++ take l.left (concat (deque_iter_rest l.piece-iterator)) ≡ take l.count (concat l.pieces.items)

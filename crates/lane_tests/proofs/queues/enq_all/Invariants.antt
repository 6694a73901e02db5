use Rattle.std.proofs.Common.{◌≡◌, ◌+◌, ◌^◌, ◌<◌, ◌≤◌, ◌++◌, length}
use Rattle.std.specs.List.{concat}
use Rattle.std.specs.Vec.Iter.{into_iter_items}
use Rattle.lane_tests.proofs.queues.enq_all.Given as goal

abbrev pub invariant-loop-piece : goal.invariant-loop-piece
invariant-loop-piece l =
    (l.queue.segments ++ into_iter_items l.piece-iterator ≡ l.fn.queue.segments ++ l.fn.pieces.items)
    × (length (into_iter_items l.piece-iterator) ≤ l.queue.room)
    × (length (concat l.queue.segments) + length (concat (into_iter_items l.piece-iterator)) < 2 ^ 63)

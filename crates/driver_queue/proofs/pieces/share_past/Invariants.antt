use Rattle.std.proofs.Common.{◌≡◌, ◌++◌, drop}
use Rattle.io_vector.specs.Segments.{segments_past}
use Rattle.driver_queue.proofs.pieces.share_past.Given as goal

abbrev pub invariant-loop-piece : goal.invariant-loop-piece
invariant-loop-piece l =
    l.rest.items ++ segments_past l.left (drop l.piece-index l.pieces) ≡ segments_past l.skip l.pieces

use Rattle.std.proofs.Common.{◌≡◌, ◌++◌, drop}
use Rattle.io_vector.specs.Segments.{segments_within}
use Rattle.io_vector.proofs.vector.share_front.Given as goal

abbrev pub invariant-loop-piece : goal.invariant-loop-piece
invariant-loop-piece l =
    l.front.items ++ segments_within l.left (drop l.piece-index l.pieces) ≡ segments_within l.count l.pieces

use Rattle.std.proofs.Common.{◌-◌, length, drop}
use Rattle.io_vector.specs.Segments.{segments_past}
use Rattle.io_vector.proofs.vector.skip_from.Given as goal
use Rattle.io_vector.proofs.Segments.{IsSkipping}

abbrev pub invariant-loop-left : goal.invariant-loop-left
invariant-loop-left l = IsSkipping (segments_past l.count (drop l.from l.fn.pieces)) l.pieces l.at l.left

abbrev pub decreases-loop-left : goal.decreases-loop-left
decreases-loop-left l = length l.pieces - l.at

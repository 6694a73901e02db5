use Rattle.std.proofs.Common.{◌++◌, ◌-◌}
use Rattle.packet_framing.specs.Reading.{ReadsInLine}
use Rattle.packet_framing.proofs.lines.cut_pieces.Given as goal

abbrev pub invariant-loop-reading : goal.invariant-loop-reading
invariant-loop-reading l =
    ReadsInLine l.limit (l.joined.held.now ++ l.joined.chunk.now) l.end l.reading.rest l.reading.messages.items

abbrev pub decreases-loop-reading : goal.decreases-loop-reading
decreases-loop-reading l = l.end - l.reading.rest

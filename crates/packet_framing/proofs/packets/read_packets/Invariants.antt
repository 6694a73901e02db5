use Rattle.std.proofs.Common.{◌++◌, ◌-◌, length}
use Rattle.packet_framing.proofs.Steps.{FramesTo}
use Rattle.packet_framing.proofs.packets.read_packets.Given as goal

abbrev pub invariant-loop-reading : goal.invariant-loop-reading
invariant-loop-reading l = FramesTo l.mode (l.joined.held.now ++ l.joined.chunk.now) l.reading.rest l.reading.messages.items

abbrev pub decreases-loop-reading : goal.decreases-loop-reading
decreases-loop-reading l = length (l.joined.held.now ++ l.joined.chunk.now) - l.reading.rest

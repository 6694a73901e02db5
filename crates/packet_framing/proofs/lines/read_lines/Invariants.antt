use Rattle.std.proofs.Common.{◌++◌, ◌-◌, ◌≤◌, length}
use Rattle.packet_framing.specs.Reading.{ReadsTo}
use Rattle.packet_framing.proofs.lines.read_lines.Given as goal

abbrev pub invariant-loop-at : goal.invariant-loop-at
invariant-loop-at l =
    ReadsTo l.limit (l.joined.held.now ++ l.joined.chunk.now) l.at l.reading.rest l.reading.messages.items
    × (length l.joined.held.now ≤ l.at)
    × (l.at ≤ length (l.joined.held.now ++ l.joined.chunk.now))

abbrev pub decreases-loop-at : goal.decreases-loop-at
decreases-loop-at l = length (l.joined.held.now ++ l.joined.chunk.now) - l.at

use Rattle.std.proofs.Common.{refl, arith}
use Rattle.packet_framing.proofs.Steps.{in_line_more, in_line_read}
use Rattle.packet_framing.proofs.lines.cut_pieces.Goals as goal

pub loop-reading-preserved : goal.loop-reading-preserved
loop-reading-preserved c =
    in_line_more c.args.limit _ c.args.end c.loop-reading.reading.rest _ c.loop-reading.reading.messages.items _ c.in_ok-piece.piece
    c.requires.some c.requires.within c.loop-reading.invariant refl (omega (arith, c.loop-reading-test.true)) c.in_ok-piece.ensures.flag
    c.in_ok-piece.ensures.bytes c.in_ok-push.ensures.items

pub returns : goal.returns
returns c =
    in_line_read c.args.limit _ c.args.end c.loop-reading.reading.rest c.args.end c.loop-reading.reading.messages.items
    c.requires.some c.requires.within c.loop-reading.invariant c.loop-reading.invariant.before (omega arith) (omega (arith, c.loop-reading-test.false))

use Rattle.std.proofs.Common.{◌++◌, drop, Option, IfSome, subst, arith}
use Rattle.std.proofs.lemmas.Result.{err_from_is_err_and}
use Rattle.packet_framing.specs.declared.message.Message.{Message}
use Rattle.packet_framing.specs.Reading.{FoundPacket}
use Rattle.packet_framing.proofs.Steps.{frames_to_more, read_fails}
use Rattle.packet_framing.proofs.packets.read_packets.Goals as goal

pub returns-in_err-message-clause-fault : goal.returns-in_err-message-clause-fault
returns-in_err-message-clause-fault c =
    let p = err_from_is_err_and c.from_residual.result c.from_residual.ensures.1 in
    rw (p.1, p.2)
    (read_fails c.args.mode _ c.loop-reading.reading.rest c.loop-reading.reading.messages.items _ c.loop-reading.invariant c.in_err-message.ensures.fault)

pub loop-reading-preserved : goal.loop-reading-preserved
loop-reading-preserved c =
    let P : Option Message → Type 0 = λ found.
    IfSome found (FoundPacket c.args.mode (drop c.loop-reading.reading.rest (c.args.joined.now.held.now ++ c.args.joined.now.chunk.now))) in
    frames_to_more c.args.mode _ c.loop-reading.reading.rest _ c.loop-reading.reading.messages.items _ c.in-Some.message c.loop-reading.invariant
    (subst P c.in-Some.is c.in_ok-message.ensures.found) (omega arith) c.in_ok-push.ensures.items

use Rattle.std.proofs.Common.{◌++◌, arith}
use Rattle.packet_framing.proofs.Steps.{found_packet, large_header}
use Rattle.packet_framing.proofs.packets.first_packet.Goals as goal

pub returns-then-len-gt-MAX_LEN-clause-fault : goal.returns-then-len-gt-MAX_LEN-clause-fault
returns-then-len-gt-MAX_LEN-clause-fault c =
    rw c.from.ensures (large_header c.args.mode _ c.told_len-len.result c.told_len-len.ensures.value c.told_len-len.ensures.below c.if-len-gt-MAX_LEN.true)

pub returns-clause-found : goal.returns-clause-found
returns-clause-found c =
    found_packet c.args.mode (c.args.joined.now.held.now ++ c.args.joined.now.chunk.now) c.args.at _ _ c.told_len-len.result c.in_ok-message.message
    c.told_len-len.ensures.value c.told_len-len.ensures.below (omega arith) (omega arith) (omega arith) (omega arith)
    c.in_ok-message.ensures.flag c.in_ok-message.ensures.bytes

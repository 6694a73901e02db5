use Rattle.std.proofs.Common.{◌++◌, ap, arith}
use Rattle.packet_framing.specs.Frames.{header_len}
use Rattle.packet_framing.proofs.Headers.{header_four}
use Rattle.packet_framing.proofs.packets.told_len.Goals as goal

pub returns-in-Packet4-clause-value : goal.returns-in-Packet4-clause-value
returns-in-Packet4-clause-value c =
    header_four c.args.mode (c.args.joined.now.held.now ++ c.args.joined.now.chunk.now) c.args.at _ _ _ _ _ c.in-Packet4.is
    (omega (arith, c.requires, ap header_len c.in-Packet4.is))
    c.byte-in-Packet4.ensures.value c.byte-in-Packet4-2.ensures.value c.byte-in-Packet4-3.ensures.value c.byte-in-Packet4-4.ensures.value
    c.byte-in-Packet4.ensures.bound c.byte-in-Packet4-2.ensures.bound c.byte-in-Packet4-3.ensures.bound c.byte-in-Packet4-4.ensures.bound
    c.from_be_bytes-in-Packet4.ensures

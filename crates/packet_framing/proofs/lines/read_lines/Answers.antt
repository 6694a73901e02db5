use Rattle.std.proofs.Common.{◌++◌, List, length, sym, subst, arith, length-append}
use Rattle.packet_framing.specs.declared.message.Message.{Message}
use Rattle.packet_framing.specs.Reading.{ReadsTo}
use Rattle.packet_framing.proofs.Steps.{reads_held}
use Rattle.packet_framing.proofs.lines.read_lines.Goals as goal

pub loop-at-init : goal.loop-at-init
loop-at-init c =
    let P : List Message → Type 0 =
    ReadsTo c.args.limit (c.args.joined.now.held.now ++ c.args.joined.now.chunk.now) (length c.args.joined.now.held.now) 0 in (
      subst P (sym c.new.ensures.items) (reads_held c.args.limit c.args.joined.now.held.now c.args.joined.now.chunk.now c.requires.some c.requires.open),
      omega arith,
      omega (arith, length-append c.args.joined.now.held.now c.args.joined.now.chunk.now),
    )

use Rattle.std.proofs.Common.{◌≡◌, ◌+◌, length, ◌∙◌, length-append, sym, ap, slice_index, arith}
use Rattle.std.proofs.lemmas.List.{get_or-append-add}
use Rattle.packet_framing.specs.Joined.{bytes_of}
use Rattle.packet_framing.proofs.Steps.{step_end}
use Rattle.packet_framing.proofs.lines.read_line.Goals as goal

pub returns-clause-read : goal.returns-clause-read
returns-clause-read c =
    let size : length (bytes_of c.args.joined.now) ≡ length c.args.joined.now.held.now + length c.args.joined.now.chunk.now =
    length-append c.args.joined.now.held.now c.args.joined.now.chunk.now in
    let chunk : c.as_slice.result.now ≡ c.args.joined.now.chunk.now = c.as_slice.ensures in
    step_end c.args.limit _ _ c.cut_pieces.new.reading.rest c.cut_pieces.new.reading.messages.items _ c.in_ok-line.line c.requires.some (omega (arith, size, ap length chunk))
    c.in_ok-cut_pieces.ensures
    (get_or-append-add c.args.joined.now.held.now c.args.joined.now.chunk.now c.line_end.result 0 ∙ ap (λ bytes. slice_index bytes c.line_end.result) (sym chunk) ∙ c.line_end.ensures.stops (omega (arith, size, ap length chunk)))
    c.in_ok-line.ensures.flag c.in_ok-line.ensures.bytes c.in_ok-push.ensures.items

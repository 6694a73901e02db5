use Rattle.std.proofs.Common.{◌≡◌, ◌+◌, ◌-◌, ◌≤◌, ◌++◌, ◌∙◌, sym, ap, length, slice_range, arith, length-append}
use Rattle.packet_framing.proofs.Lists.{range-append}
use Rattle.packet_framing.proofs.joined.Joined.copy.Goals as goal

pub returns : goal.returns
returns c =
    let within : c.args.end ≤ length c.args.self.now.held.now + length c.args.self.now.chunk.now =
    omega (arith, c.requires.within, length-append c.args.self.now.held.now c.args.self.now.chunk.now) in
    let front : c.extend_from_slice.new.self.items ≡ slice_range c.args.self.now.held.now c.min-held_start.result c.min-held_end.result =
    c.in_ok-extend_from_slice.ensures.items
    ∙ ap (λ xs. xs ++ slice_range c.args.self.now.held.now c.min-held_start.result c.min-held_end.result) c.in_ok-bytes.ensures.items in
    c.in_ok-extend_from_slice-2.ensures.items
    ∙ ap (λ chunk. c.extend_from_slice.new.self.items ++ slice_range chunk (c.args.start - c.min-held_start.result) (c.args.end - c.min-held_end.result)) c.as_slice.ensures
    ∙ ap (λ xs. xs ++ slice_range c.args.self.now.chunk.now (c.args.start - c.min-held_start.result) (c.args.end - c.min-held_end.result)) front
    ∙ sym (range-append c.args.self.now.held.now c.args.self.now.chunk.now c.args.start c.args.end c.min-held_start.result c.min-held_end.result
    c.requires.ordered within c.min-held_start.ensures c.min-held_end.ensures)

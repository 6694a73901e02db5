use Rattle.std.proofs.Common.{◌≡◌, ◌-◌, ◌++◌, sym, subst, length, slice_range, IfOk, arith}
use Rattle.packet_framing.proofs.Lists.{range-past}
use Rattle.packet_framing.proofs.joined.Joined.piece.Goals as goal

pub returns-then-held-start : goal.returns-then-held-start
returns-then-held-start c =
    let past : slice_range c.args.self.now.chunk.now (c.args.start - length c.args.self.now.held.now) (c.args.end - length c.args.self.now.held.now)
    ≡ slice_range (c.args.self.now.held.now ++ c.args.self.now.chunk.now) c.args.start c.args.end =
    sym (range-past c.args.self.now.held.now c.args.self.now.chunk.now c.args.start c.args.end (omega arith) c.requires.ordered) in
    subst (λ bytes. IfOk c.part.result (λ piece. piece ≡ bytes)) past c.part.ensures

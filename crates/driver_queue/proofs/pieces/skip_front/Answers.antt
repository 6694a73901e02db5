use Rattle.std.proofs.Common.{◌≡◌, sym, ◌∙◌, ap, arith}
use Rattle.io_vector.specs.Segments.{segments_past}
use Rattle.io_vector.proofs.Segments.{past-zero}
use Rattle.driver_queue.proofs.pieces.skip_front.Goals as goal

pub returns-clause-items : goal.returns-clause-items
returns-clause-items c =
    let none : c.loop-left.left ≡ 0 = omega arith in
    sym (past-zero c.loop-left.pieces.items)
    ∙ ap (λ n. segments_past n c.loop-left.pieces.items) (sym none)
    ∙ c.loop-left.invariant.0

use Rattle.std.proofs.Common.{◌≡◌, drop, arith, ap, sym, ◌∙◌}
use Rattle.io_vector.specs.Segments.{segments_past}
use Rattle.io_vector.proofs.Segments.{past-zero}
use Rattle.io_vector.proofs.vector.skip_from.Goals as goal

pub returns-clause-left : goal.returns-clause-left
returns-clause-left c =
    let none : c.loop-left.left ≡ 0 = omega arith in
    sym (past-zero (drop c.loop-left.at c.loop-left.pieces))
    ∙ ap (λ n. segments_past n (drop c.loop-left.at c.loop-left.pieces)) (sym none)
    ∙ c.loop-left.invariant.to_go

use Rattle.std.proofs.Common.{◌≡◌, ◌≤◌, ◌∙◌, ap, length, arith}
use Rattle.std.specs.List.{concat}
use Rattle.io_vector.specs.Segments.{segments_within}
use Rattle.io_vector.proofs.Counted.{counted-prefix}
use Rattle.io_vector.proofs.Segments.{concat-segments_within}
use Rattle.io_vector.proofs.vector.IoVec.prefix.Goals as goal

pub invariant_of-result : goal.invariant_of-result
invariant_of-result c =
    let is : c.in-Ok.pieces.items ≡ segments_within c.args.n c.args.self.now =
    c.in-Ok.ensures ∙ ap (λ ss. segments_within c.args.n ss) c.as_slice.ensures in
    let enough : c.args.n ≤ length (concat c.args.self.now) =
    omega (arith, c.self.invariant.counted, ap (λ ss. length (concat ss)) c.self.view_is) in
    counted-prefix c.args.self.now _ _ enough (omega arith) is

pub returns-in-Ok-clause-bytes : goal.returns-in-Ok-clause-bytes
returns-in-Ok-clause-bytes c =
    ap concat c.in-Ok.ensures ∙ ap (λ ss. concat (segments_within c.args.n ss)) c.as_slice.ensures
    ∙ concat-segments_within c.args.n c.args.self.now

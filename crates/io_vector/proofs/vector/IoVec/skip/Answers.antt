use Rattle.std.proofs.Common.{ap, ◌∙◌}
use Rattle.std.specs.List.{concat}
use Rattle.io_vector.specs.Segments.{segments_past}
use Rattle.io_vector.proofs.Counted.{counted-skip}
use Rattle.io_vector.proofs.Segments.{concat-segments_past}
use Rattle.io_vector.proofs.vector.IoVec.skip.Goals as goal

pub invariant_of-self : goal.invariant_of-self
invariant_of-self c =
    counted-skip _ _ _ _ _ _ c.self.invariant c.skip_bytes-self-inside.ensures.within c.skip_bytes-self-inside.ensures.left

pub returns-clause-bytes : goal.returns-clause-bytes
returns-clause-bytes c =
    ap concat (c.skip_bytes-self-inside.ensures.left ∙ ap (λ ss. segments_past c.args.n ss) c.self.view_is)
    ∙ concat-segments_past c.args.n c.args.self.now

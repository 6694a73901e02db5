use Rattle.std.proofs.Common.{◌≡◌, [], ◌∷◌, length, arith, sym, ◌∙◌, ap}
use Rattle.std.specs.List.{concat}
use Rattle.io_vector.proofs.Counted.{counted-append}
use Rattle.io_vector.proofs.Segments.{concat-one}
use Rattle.io_vector.proofs.vector.IoVec.push.Goals as goal

pub invariant_of-self : goal.invariant_of-self
invariant_of-self c =
    let count : c.len-len.result ≡ length (concat (c.args.piece ∷ [])) =
    c.len-len.ensures.value ∙ sym (ap length (concat-one c.args.piece)) in
    counted-append _ _ _ _ _ _ c.self.invariant c.in-Ok.ensures.ok count (omega arith)

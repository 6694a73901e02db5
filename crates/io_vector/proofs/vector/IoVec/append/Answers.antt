use Rattle.std.proofs.Common.{◌≡◌, ◌++◌, drop, length, arith, rules, ◌∙◌}
use Rattle.std.specs.List.{concat}
use Rattle.io_vector.proofs.Counted.{counted-append}
use Rattle.io_vector.proofs.vector.IoVec.append.Goals as goal

pub invariant_of-self-2 : goal.invariant_of-self-2
invariant_of-self-2 c =
    let is : c.append.new.self.items ≡ c.self.inside.pieces.items ++ drop c.other.inside.first c.other.inside.pieces.items =
    search rules in
    let count : c.replace.result ≡ length (concat (drop c.other.inside.first c.other.inside.pieces.items)) =
    c.replace.ensures.value ∙ c.other.invariant.counted in
    counted-append _ _ _ _ _ _ c.self.invariant is count (omega arith)

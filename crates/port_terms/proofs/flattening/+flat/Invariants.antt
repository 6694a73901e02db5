use Rattle.std.proofs.Common.{◌≡◌, ◌++◌, drop}
use Rattle.port_terms.specs.Tree.{forest}
use Rattle.port_terms.specs.IoView.{io_trees}
use Rattle.port_terms.specs.Written.{flattened_all}
use Rattle.port_terms.proofs.flattening.+flat.Given as goal

abbrev pub invariant-put_parts-loop-part : goal.invariant-put_parts-loop-part
invariant-put_parts-loop-part l = l.out.items ++ flattened_all (forest (io_trees (drop l.part-index l.part-items))) ≡ l.fn.out.items ++ flattened_all l.parts

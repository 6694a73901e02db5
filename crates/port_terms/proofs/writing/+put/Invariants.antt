use Rattle.std.proofs.Common.{◌≡◌, ◌++◌, drop}
use Rattle.port_terms.specs.Tree.{forest}
use Rattle.port_terms.specs.View.{trees}
use Rattle.port_terms.specs.Limits.{AreTerms}
use Rattle.port_terms.specs.Written.{written_all}
use Rattle.port_terms.proofs.writing.+put.Given as goal

abbrev pub invariant-put_items-loop-item : goal.invariant-put_items-loop-item
invariant-put_items-loop-item l = record {
  so_far : l.out.items ++ written_all (forest (trees (drop l.item-index l.item-items))) ≡ l.fn.out.items ++ written_all l.terms;
  limits : AreTerms (forest (trees (drop l.item-index l.item-items))) → AreTerms l.terms;
}

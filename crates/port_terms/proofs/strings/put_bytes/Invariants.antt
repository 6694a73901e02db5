use Rattle.std.proofs.Common.{◌≡◌, ◌++◌, drop, true}
use Rattle.port_terms.specs.Tree.{forest}
use Rattle.port_terms.specs.View.{trees}
use Rattle.port_terms.specs.Written.{are_bytes, bytes_of}
use Rattle.port_terms.proofs.strings.put_bytes.Given as goal

abbrev pub invariant-loop-item : goal.invariant-loop-item
invariant-loop-item l = record {
  bytes_left : are_bytes (forest (trees (drop l.item-index l.item-items))) ≡ true;
  so_far : l.out.items ++ bytes_of (forest (trees (drop l.item-index l.item-items))) ≡ l.fn.out.items ++ bytes_of l.terms;
}

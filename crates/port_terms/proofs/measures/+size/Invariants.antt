use Rattle.std.proofs.Common.{◌≡◌, ◌+◌, ◌-◌, ◌^◌, ◌≤◌, min, length, drop}
use Rattle.port_terms.specs.Tree.{forest}
use Rattle.port_terms.specs.View.{trees}
use Rattle.port_terms.specs.Written.{written_all}
use Rattle.port_terms.proofs.measures.+size.Given as goal

abbrev pub invariant-items_size-loop-item : goal.invariant-items_size-loop-item
invariant-items_size-loop-item l = record {
  fits : l.size ≤ 2 ^ 64 - 1;
  so_far : min (l.size + length (written_all (forest (trees (drop l.item-index l.item-items))))) (2 ^ 64 - 1) ≡ min (length (written_all l.terms)) (2 ^ 64 - 1);
}

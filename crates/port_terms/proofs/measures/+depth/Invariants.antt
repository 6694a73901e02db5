use Rattle.std.proofs.Common.{◌≡◌, ◌-◌, ◌^◌, min, max, drop}
use Rattle.port_terms.specs.Tree.{forest, deepest}
use Rattle.port_terms.specs.View.{trees}
use Rattle.port_terms.proofs.measures.+depth.Given as goal

abbrev pub invariant-items_depth-loop-item : goal.invariant-items_depth-loop-item
invariant-items_depth-loop-item l = max l.deepest (min (deepest (forest (trees (drop l.item-index l.item-items)))) (2 ^ 64 - 1)) ≡ min (deepest l.terms) (2 ^ 64 - 1)

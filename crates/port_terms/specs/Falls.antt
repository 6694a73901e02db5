-- Each item of a list weighs less than what holds the list.
use Rattle.std.specs.Prelude.{◌≤◌, List, [], ◌∷◌}
use Rattle.std.proofs.Common.{arith}
use denote.Param.Weighed.{most}
use Rattle.port_terms.specs.declared.values.Term.{Term}
use Rattle.port_terms.specs.declared.values.Term.TheVariants.{Int, Atom, Bin, Tuple, List as ListTerm}
use Rattle.port_terms.specs.declared.values.Terms.TheDeep.{deep-Term}
use Rattle.port_terms.specs.Tree.{weigh, weight, forest}
use Rattle.port_terms.specs.View.{tree, trees}

item_falls : (t : Term) → deep-Term t ≤ weigh (tree t)
item_falls (Int n) = omega arith
item_falls (Atom name) = omega arith
item_falls (Bin bytes) = omega arith
item_falls (Tuple ts) = omega arith
item_falls (ListTerm ts) = omega arith

pub falls : (items : List Term) → most deep-Term items ≤ weight (forest (trees items))
falls [] = omega arith
falls (t ∷ ts) = omega (arith, item_falls t, falls ts)

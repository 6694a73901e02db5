-- The trees of the crate's values.
use Rattle.std.specs.Prelude.{List, map}
use Rattle.port_terms.specs.declared.values.Term.{Term}
use Rattle.port_terms.specs.declared.values.Term.TheVariants.{Int, Atom, Bin, Tuple, List as ListTerm}
use Rattle.port_terms.specs.Tree.{Tree, int, atom, bin, tuple, list}

abbrev pub tree : Term → Tree
tree (Int n) = int n
tree (Atom name) = atom name
tree (Bin bytes) = bin bytes
tree (Tuple ts) = tuple ts
tree (ListTerm ts) = list ts

abbrev pub trees : List Term → List Tree
trees ts = map tree ts

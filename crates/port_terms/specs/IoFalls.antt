-- Each item of an I/O list weighs less than what holds the list.
use Rattle.std.specs.Prelude.{◌≤◌, List, [], ◌∷◌}
use Rattle.std.proofs.Common.{arith}
use denote.Param.Weighed.{most}
use Rattle.port_terms.specs.declared.io_lists.IoList.{IoList}
use Rattle.port_terms.specs.declared.io_lists.IoList.TheVariants.{Byte, Bin, List as IoItems}
use Rattle.port_terms.specs.declared.io_lists.IoParts.TheDeep.{deep-IoList}
use Rattle.port_terms.specs.Tree.{weigh, weight, forest}
use Rattle.port_terms.specs.IoView.{io_tree, io_trees}

item_falls : (t : IoList) → deep-IoList t ≤ weigh (io_tree t)
item_falls (Byte b) = omega arith
item_falls (Bin bytes) = omega arith
item_falls (IoItems ts) = omega arith

pub falls : (items : List IoList) → most deep-IoList items ≤ weight (forest (io_trees items))
falls [] = omega arith
falls (t ∷ ts) = omega (arith, item_falls t, falls ts)

-- The trees of I/O lists: a byte is the integer, and the rest is as it is in a term.
use Rattle.std.specs.Prelude.{List, map, pos}
use Rattle.port_terms.specs.declared.io_lists.IoList.{IoList}
use Rattle.port_terms.specs.declared.io_lists.IoList.TheVariants.{Byte, Bin, List as IoItems}
use Rattle.port_terms.specs.Tree.{Tree, int, bin, list}

abbrev pub io_tree : IoList → Tree
io_tree (Byte b) = int (pos b)
io_tree (Bin bytes) = bin bytes
io_tree (IoItems ts) = list ts

abbrev pub io_trees : List IoList → List Tree
io_trees ts = map io_tree ts

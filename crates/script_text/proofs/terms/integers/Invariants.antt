use Rattle.std.proofs.Common.{◌≡◌, take}
use Rattle.port_terms.specs.View.{trees}
use Rattle.port_terms.proofs.Lists.{int_trees}
use Rattle.script_text.proofs.terms.integers.Given as goal

abbrev pub invariant-loop-byte : goal.invariant-loop-byte
invariant-loop-byte l = trees l.items.items ≡ int_trees (take l.byte-index l.bytes)

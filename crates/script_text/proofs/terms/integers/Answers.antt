use Rattle.std.proofs.Common.{ap, ◌∙◌}
use Rattle.std.proofs.lemmas.List.{take_all}
use Rattle.port_terms.specs.Tree.{forest}
use Rattle.port_terms.proofs.Lists.{int_trees, ints_is}
use Rattle.script_text.proofs.terms.integers.Goals as goal

pub returns : goal.returns
returns c = c.terms.ensures ∙ ap forest (c.loop-byte.invariant ∙ ap int_trees (take_all c.loop-byte.byte-index c.args.bytes.now c.loop-byte-test.false)) ∙ ints_is c.args.bytes.now

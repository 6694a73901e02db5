use Rattle.std.proofs.Common.{◌∙◌, rules, tests}
use Rattle.std.proofs.lemmas.Iterator.{YieldsList-from_slice}
use Rattle.std.proofs.lemmas.Iterator.Search.{all_from_yields_List}
use Rattle.port_terms.specs.View.{tree}
use Rattle.port_terms.specs.Written.{is_byte}
use Rattle.port_terms.proofs.Lists.{all_are_bytes}
use Rattle.port_terms.proofs.strings.are_bytes.Goals as goal

pub returns : goal.returns
returns c = all_from_yields_List (λ t. is_byte (tree t)) _ _ c.all.result c.all.ensures.ran (YieldsList-from_slice c.args.items.now cc) (λ x b q k. search (rules, tests)) ∙ all_are_bytes c.args.items.now

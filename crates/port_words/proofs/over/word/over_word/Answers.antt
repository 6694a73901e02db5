use Rattle.std.proofs.Common.{arith}
use Rattle.port_words.proofs.lemmas.over.OverLemmas.{opens, deals}
use Rattle.port_words.proofs.over.word.over_word.Goals as goal

pub of_words-requires : goal.of_words-requires
of_words-requires c = opens _ (omega arith) (omega arith)

pub numbers-preserved : goal.numbers-preserved
numbers-preserved c = deals _ _ _ _ _ _ _ _ _ c.in_ok-cut.field-0 c.numbers.invariant (omega arith) c.in_ok-cut.ensures.rest.0 c.in_ok-cut.ensures.rest.1 c.in_ok-cut.ensures.cut.0 c.in_ok-cut.ensures.cut.1 c.in_ok-push.ensures.items

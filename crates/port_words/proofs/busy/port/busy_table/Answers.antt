use Rattle.std.proofs.Common.{arith}
use Rattle.port_words.proofs.lemmas.busy.BusyLemmas.{opens, right_setup, deals}
use Rattle.port_words.proofs.busy.port.busy_table.Goals as goal

pub of_words-requires : goal.of_words-requires
of_words-requires c = opens _ (right_setup _ _ _ _ c.requires.senders.1 c.requires.limits)

pub numbers-preserved : goal.numbers-preserved
numbers-preserved c = deals _ _ _ _ _ _ _ _ _ c.in_ok-cut.field-0 c.numbers.invariant (omega arith) c.in_ok-cut.ensures.rest.0 c.in_ok-cut.ensures.rest.1 c.in_ok-cut.ensures.cut.0 c.in_ok-cut.ensures.cut.1 c.in_ok-push.ensures.items

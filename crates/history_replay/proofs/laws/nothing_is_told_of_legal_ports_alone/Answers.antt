use Rattle.history_replay.proofs.Legal.{legal-whole, legal-right}
use Rattle.history_replay.proofs.laws.nothing_is_told_of_legal_ports_alone.Goals as goal

pub returns-clause-whole : goal.returns-clause-whole
returns-clause-whole c = legal-whole c.nothing_is_told_of_lawful_histories_alone.ensures.whole

pub returns-clause-right : goal.returns-clause-right
returns-clause-right c = legal-right c.nothing_is_told_of_lawful_histories_alone.ensures.right

use Rattle.port_history.proofs.Verdicts.{whole, told-right}
use Rattle.port_history.proofs.laws.nothing_is_told_of_lawful_histories_alone.Goals as goal

pub returns-clause-whole : goal.returns-clause-whole
returns-clause-whole c = whole

pub returns-clause-right : goal.returns-clause-right
returns-clause-right c = told-right

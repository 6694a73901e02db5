use Rattle.port_words.proofs.lemmas.over.OverLemmas.{opens, cuts, joins, looks, finishes, stops}
use Rattle.port_words.proofs.over.laws.over_rule_kept_by_each_step.Goals as goal

pub returns-clause-new : goal.returns-clause-new
returns-clause-new c = opens

pub returns-clause-split : goal.returns-clause-split
returns-clause-split c = cuts

pub returns-clause-join : goal.returns-clause-join
returns-clause-join c = joins

pub returns-clause-look : goal.returns-clause-look
returns-clause-look c = looks

pub returns-clause-finish : goal.returns-clause-finish
returns-clause-finish c = finishes

pub returns-clause-stop : goal.returns-clause-stop
returns-clause-stop c = stops

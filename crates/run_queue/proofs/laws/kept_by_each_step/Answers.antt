use Rattle.std.proofs.Common.{[], ◌∷◌}
use Rattle.run_queue.proofs.Accounts.{puts, takes, splits, joins}
use Rattle.run_queue.proofs.laws.kept_by_each_step.Goals as goal

pub returns-clause-put : goal.returns-clause-put
returns-clause-put c = λ port v ticket. puts port v (ticket ∷ [])

pub returns-clause-take : goal.returns-clause-take
returns-clause-take c = takes

pub returns-clause-split : goal.returns-clause-split
returns-clause-split c = splits

pub returns-clause-join : goal.returns-clause-join
returns-clause-join c = joins

use Rattle.run_laws.proofs.echoed.Whole.{all-is-echoed, commands-are-echoed, none-is-refused}
use Rattle.run_laws.proofs.echoed.commands_are_echoed.Goals as goal

pub returns-clause-echoed : goal.returns-clause-echoed
returns-clause-echoed g c = commands-are-echoed _ _ _ _ _

pub returns-clause-all : goal.returns-clause-all
returns-clause-all g c = all-is-echoed _ _ _ _ _

pub returns-clause-none_refused : goal.returns-clause-none_refused
returns-clause-none_refused g c = none-is-refused _ _ _ _ _

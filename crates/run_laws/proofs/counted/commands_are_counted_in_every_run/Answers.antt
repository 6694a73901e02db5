use Rattle.run_laws.proofs.counted.Whole.{commands-are-counted-in}
use Rattle.run_laws.proofs.counted.commands_are_counted_in_every_run.Goals as goal

pub returns : goal.returns
returns g c = commands-are-counted-in _ _ _ _ _

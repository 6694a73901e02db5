use Rattle.run_laws.proofs.journals.Whole.{journals-are-replayed-in}
use Rattle.run_laws.proofs.journals.journals_are_replayed_in_every_run.Goals as goal

pub returns : goal.returns
returns g c = journals-are-replayed-in _ _ _ _ _

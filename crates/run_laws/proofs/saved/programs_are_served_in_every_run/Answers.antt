use Rattle.run_laws.proofs.saved.Programs.{programs-served-in}
use Rattle.run_laws.proofs.saved.programs_are_served_in_every_run.Goals as goal

pub returns : goal.returns
returns g c = programs-served-in _ _ _ _ _

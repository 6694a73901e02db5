use Rattle.run_laws.proofs.saved.Runs.{output-is-saved-in}
use Rattle.run_laws.proofs.saved.output_is_saved_in_every_run.Goals as goal

pub returns : goal.returns
returns g c = output-is-saved-in _ _ _ _ _

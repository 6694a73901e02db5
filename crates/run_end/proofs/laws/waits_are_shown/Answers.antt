use Rattle.run_end.proofs.Waited.{all-waits}
use Rattle.run_end.proofs.laws.waits_are_shown.Goals as goal

pub returns : goal.returns
returns c = all-waits

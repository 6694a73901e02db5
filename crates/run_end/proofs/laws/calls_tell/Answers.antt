use Rattle.run_end.proofs.Tells.{tells}
use Rattle.run_end.proofs.laws.calls_tell.Goals as goal

pub returns : goal.returns
returns c = tells

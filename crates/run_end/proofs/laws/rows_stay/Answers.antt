use Rattle.run_end.proofs.Tells.{rows_stay}
use Rattle.run_end.proofs.laws.rows_stay.Goals as goal

pub returns : goal.returns
returns c = rows_stay

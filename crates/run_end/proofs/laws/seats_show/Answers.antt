use Rattle.run_end.proofs.Tells.{seats_show}
use Rattle.run_end.proofs.laws.seats_show.Goals as goal

pub returns : goal.returns
returns c = seats_show

use Rattle.gateway.proofs.Closing.{finished-has-end}
use Rattle.gateway.proofs.laws.finished_history_has_an_end.Goals as goal

pub returns : goal.returns
returns c = finished-has-end

use Rattle.ready_select.proofs.Counting.{answered-rounds}
use Rattle.ready_select.proofs.laws.told_no_more_than_answered.Goals as goal

pub returns : goal.returns
returns c = answered-rounds

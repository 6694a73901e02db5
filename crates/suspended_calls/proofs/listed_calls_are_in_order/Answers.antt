use Rattle.suspended_calls.proofs.listed_calls_are_in_order.Goals as goal
use Rattle.suspended_calls.proofs.Ordered.{listed-in-order}

pub returns : goal.returns
returns c = listed-in-order

use Rattle.suspended_calls.proofs.suspended_calls_are_listed.Goals as goal
use Rattle.suspended_calls.proofs.Rising.{suspended-are-listed}

pub returns : goal.returns
returns c = suspended-are-listed

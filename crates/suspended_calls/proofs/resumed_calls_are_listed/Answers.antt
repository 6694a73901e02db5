use Rattle.suspended_calls.proofs.resumed_calls_are_listed.Goals as goal
use Rattle.suspended_calls.proofs.Waiting.{resumed-are-listed}

pub returns : goal.returns
returns c = resumed-are-listed

use Rattle.suspended_calls.proofs.listed_calls_are_suspended.Goals as goal
use Rattle.suspended_calls.proofs.Rising.{listed-are-suspended}

pub returns : goal.returns
returns c = listed-are-suspended

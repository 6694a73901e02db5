use Rattle.told_jobs.proofs.workers_tell_their_jobs.Goals as goal
use Rattle.told_jobs.proofs.Worked.{workers-tell}

pub returns : goal.returns
returns c = workers-tell

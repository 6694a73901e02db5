use Rattle.told_jobs.proofs.jobs_told_in_order_are_lawful.Goals as goal
use Rattle.told_jobs.proofs.Telling.{told-in-order}

pub returns : goal.returns
returns c = told-in-order

-- The waits of a process that has ended.
use Rattle.process_job.proofs.Stepping.{waits_more}
use Rattle.run_end.specs.Waited.{AllWaitsAreShown}

pub all-waits : AllWaitsAreShown
all-waits p more whole = waits_more p.mails more p.end.receipts p.steps p.files whole.ran.waited

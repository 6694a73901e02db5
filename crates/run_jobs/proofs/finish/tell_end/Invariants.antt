use Rattle.run_jobs.proofs.Finishes.{ToldBelow}
use Rattle.run_jobs.proofs.finish.tell_end.Given as goal

abbrev pub invariant-workers : goal.invariant-workers
invariant-workers g l = ToldBelow l.worker l.fn.workers.items l.workers.items

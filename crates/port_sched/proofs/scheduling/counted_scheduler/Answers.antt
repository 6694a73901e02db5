use Rattle.std.proofs.Common.{refl}
use Rattle.port_sched.proofs.Begun.{new_counts}
use Rattle.port_sched.proofs.scheduling.counted_scheduler.Goals as goal

pub returns-in-Done-clause-counts : goal.returns-in-Done-clause-counts
returns-in-Done-clause-counts g c = c.serve_all-end.ensures.counts _ (new_counts _ _ refl refl)

pub returns-in-NoMemory-clause-counts : goal.returns-in-NoMemory-clause-counts
returns-in-NoMemory-clause-counts g c = c.serve_all-end.ensures.counts _ (new_counts _ _ refl refl)

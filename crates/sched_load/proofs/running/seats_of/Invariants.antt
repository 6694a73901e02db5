use Rattle.std.proofs.Common.{◌≡◌, ◌++◌, length, map}
use Rattle.sched_load.proofs.running.seats_of.Given as goal

abbrev pub invariant-jobs : goal.invariant-jobs
invariant-jobs l = (l.all.items ++ map (λ p. p.seats) l.job-iterator.rest.items ≡ map (λ p. p.seats) l.fn.jobs.items) × (l.job-iterator.rest.len ≡ length l.job-iterator.rest.items)

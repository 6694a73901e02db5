use Rattle.std.proofs.Common.{◌≡◌, ◌≤◌, ◌+◌, length, map, vec_capacity}
use Rattle.process_job.specs.declared.job.ProcessEnd.TheVariants.{Ended}
use Rattle.threaded_jobs.proofs.ended.ended_processes.Given as goal

-- the processes so far have ended
abbrev pub invariant-loop-end : goal.invariant-loop-end
invariant-loop-end l = (map Ended l.all.items ≡ l.yielded) × (length l.all.items + l.end-iterator.rest.len ≤ vec_capacity l.all)

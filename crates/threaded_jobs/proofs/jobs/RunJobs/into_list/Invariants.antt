use Rattle.std.proofs.Common.{◌≡◌, ◌+◌, ◌≤◌, ◌++◌, length, map, vec_len, vec_capacity}
use Rattle.threaded_jobs.specs.declared.kinds.RunJob.TheVariants as job
use Rattle.threaded_jobs.proofs.jobs.RunJobs.into_list.Given as goal

abbrev pub invariant-processes : goal.invariant-processes
invariant-processes g l =
    (l.all.items ++ map job.Process l.process-iterator.rest.items ≡ map job.Process l.fn.self.processes.items)
    × (l.process-iterator.rest.len ≡ length l.process-iterator.rest.items)
    × (vec_len l.all + l.process-iterator.rest.len + length l.fn.self.workers.items + 2 ≤ vec_capacity l.all)

abbrev pub invariant-workers : goal.invariant-workers
invariant-workers g l =
    (l.all.items ++ map job.Worker l.worker-iterator.rest.items ≡ map job.Process l.fn.self.processes.items ++ map job.Worker l.fn.self.workers.items)
    × (l.worker-iterator.rest.len ≡ length l.worker-iterator.rest.items)
    × (vec_len l.all + l.worker-iterator.rest.len + 2 ≤ vec_capacity l.all)

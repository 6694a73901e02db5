use Rattle.std.proofs.Common.{◌≡◌, ◌+◌, ◌≤◌, ◌++◌, None, length, vec_len, vec_capacity}
use Rattle.threaded_jobs.proofs.Apart.{processes_in, workers_in, last_poller, last_finish}
use Rattle.threaded_jobs.proofs.jobs.take_apart.Given as goal

abbrev pub invariant-jobs : goal.invariant-jobs
invariant-jobs g l =
    (l.processes.items ++ processes_in l.job-iterator.rest.items ≡ processes_in l.fn.jobs.items)
    × (l.workers.items ++ workers_in l.job-iterator.rest.items ≡ workers_in l.fn.jobs.items)
    × (last_poller l.poller l.job-iterator.rest.items ≡ last_poller None l.fn.jobs.items)
    × (last_finish l.finish l.job-iterator.rest.items ≡ last_finish None l.fn.jobs.items)
    × (vec_len l.processes + length (processes_in l.job-iterator.rest.items) ≤ vec_capacity l.processes)
    × (vec_len l.workers + length (workers_in l.job-iterator.rest.items) ≤ vec_capacity l.workers)
    × (l.job-iterator.rest.len ≡ length l.job-iterator.rest.items)

-- How a run ended, by what is left of its jobs.
use Rattle.std.specs.Prelude.{◌≡◌, map, All}
use Rattle.process_job.specs.declared.job.ProcessEnd.TheVariants.{Ended}
use Rattle.run_jobs.specs.declared.finish.FinishEnd.TheVariants.{Told}
use Rattle.run_jobs.specs.declared.poller.PollerEnd.{PollerEnd}
use Rattle.run_jobs.specs.declared.poller.PollerEnd.TheVariants as poller
use Rattle.run_jobs.specs.declared.worker.WorkerEnd.TheVariants as worker
use Rattle.threaded_jobs.specs.declared.ended.Stop.{Stop}
use Rattle.threaded_jobs.specs.declared.ended.Stop.TheVariants.{PollFault, NoMemory}
use Rattle.threaded_jobs.specs.declared.ended.EndedJobs.{EndedJobs}
use Rattle.threaded_jobs.specs.declared.parting.RunEnds.{RunEnds}
use Rattle.threaded_jobs.specs.declared.parting.WorkerLeft.{WorkerLeft}

-- the worker took a `Finish`
abbrev pub HasFinished : WorkerLeft → Type 0
HasFinished w = w.end ≡ worker.Finished

-- a run was stopped, of whose poller this is the end
abbrev pub IsStopBy : PollerEnd → Stop → Type 0
IsStopBy poller.PollFault stop = stop ≡ PollFault
IsStopBy end stop = stop ≡ NoMemory

module _ {S : Type 0} where
  -- this is left of the jobs, and nobody stopped the run
  pub record HaveAllEnded (ends : RunEnds S) (jobs : EndedJobs S) : Type 0 where
    pub processes : map Ended jobs.processes.items ≡ ends.processes.items
    pub workers : jobs.workers ≡ ends.workers
    pub poller_is : jobs.poller ≡ ends.poller
    pub finish : jobs.finish ≡ ends.finish
    pub finished : All HasFinished ends.workers.items
    pub poller_end : ends.poller.end ≡ poller.Finished
    pub told : ends.finish.end ≡ Told

  -- somebody stopped the run
  pub record IsStopOf (ends : RunEnds S) (stop : Stop) : Type 0 where
    pub why : IsStopBy ends.poller.end stop
    pub some : (jobs : EndedJobs S) → HaveAllEnded ends jobs → ⊥

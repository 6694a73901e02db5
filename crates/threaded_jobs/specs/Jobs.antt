-- The jobs of a run, and what they have done.
use Rattle.std.specs.Prelude.{ℕ, List, [], ◌∷◌, ◌++◌, map, All}
use Rattle.port_sched.specs.declared.body.PortBody.{Ghosts}
use Rattle.port_sched.specs.Jobs.{WentEach}
use Rattle.process_job.specs.Jobs.{CanRun, HasRun}
use Rattle.run_jobs.specs.Finishing.{CanTellEnd, HasToldEnd}
use Rattle.run_jobs.specs.Rounds.{CanPoll, HasPolled}
use Rattle.run_jobs.specs.Working.{CanWork, HasWorked}
use Rattle.threaded_jobs.specs.declared.kinds.RunJob.{RunJob}
use Rattle.threaded_jobs.specs.declared.kinds.RunJob.TheVariants as job
use Rattle.threaded_jobs.specs.declared.jobs.RunJobs.{RunJobs}

module _ {B S : Type 0} {g : Ghosts B} where
  -- the jobs in one list
  abbrev pub listed : RunJobs B S g → List (RunJob B S g)
  listed r = map job.Process r.processes.items ++ map job.Worker r.workers.items ++ job.Poller r.poller ∷ job.Finish r.finish ∷ []

  -- none has run yet
  pub record CanAllGo (r : RunJobs B S g) : Type 0 where
    pub processes : All CanRun r.processes.items
    pub workers : All CanWork r.workers.items
    pub poller : CanPoll r.poller
    pub finish : CanTellEnd r.finish

  -- each has run, in its place
  pub record HaveRun (faults : S → ℕ) (answered : S → List ℕ) (old new : RunJobs B S g) : Type 0 where
    pub processes : WentEach HasRun old.processes.items new.processes.items
    pub workers : WentEach HasWorked old.workers.items new.workers.items
    pub poller : HasPolled faults answered old.poller new.poller
    pub finish : HasToldEnd old.finish new.finish

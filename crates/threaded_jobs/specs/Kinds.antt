-- The jobs of a run beside its schedulers, of every kind.
use Rattle.std.specs.Prelude.{ℕ, List}
use Rattle.port_sched.specs.declared.body.PortBody.{Ghosts}
use Rattle.process_job.specs.Jobs.{CanRun, HasRun}
use Rattle.run_jobs.specs.Finishing.{CanTellEnd, HasToldEnd}
use Rattle.run_jobs.specs.Rounds.{CanPoll, HasPolled}
use Rattle.run_jobs.specs.Working.{CanWork, HasWorked}
use Rattle.threaded_jobs.specs.declared.kinds.RunJob.{RunJob}
use Rattle.threaded_jobs.specs.declared.kinds.RunJob.TheVariants as job

module _ {B S : Type 0} {g : Ghosts B} where
  -- what a job needs, by its kind
  abbrev pub CanGo : RunJob B S g → Type 0
  CanGo (job.Process p) = CanRun p
  CanGo (job.Worker w) = CanWork w
  CanGo (job.Poller p) = CanPoll p
  CanGo (job.Finish f) = CanTellEnd f

  -- what a run of it does. It stays of its kind
  abbrev pub HasGone : (S → ℕ) → (S → List ℕ) → RunJob B S g → RunJob B S g → Type 0
  HasGone faults answered (job.Process old) (job.Process new) = HasRun old new
  HasGone faults answered (job.Worker old) (job.Worker new) = HasWorked old new
  HasGone faults answered (job.Poller old) (job.Poller new) = HasPolled faults answered old new
  HasGone faults answered (job.Finish old) (job.Finish new) = HasToldEnd old new
  HasGone faults answered old new = ⊥

-- The jobs of a run, with their seats.
use Rattle.std.specs.Prelude.{◌≡◌, ◌<◌, ℕ, List, [], None, IfSome, length, slice_index_or}
use Rattle.port_sched.specs.declared.body.PortBody.{Ghosts}
use Rattle.threaded_jobs.specs.process_job.process_end.Views.{ProcView, proc_view}
use Rattle.threaded_jobs.specs.process_job.declared.job.ProcessJob.{ProcessJob}
use Rattle.threaded_jobs.specs.process_job.Jobs.{IsWorkOf}
use Rattle.run_jobs.specs.declared.worker.WorkerJob.{WorkerJob}
use Rattle.run_lanes.specs.declared.parts.WorkerLanes.{WorkerLanes}
use Rattle.run_seats.specs.declared.plans.ProcessPlan.{ProcessPlan}
use Rattle.run_seats.specs.Plans.{IsReadyWorker}

-- a process that has made no call, of these parts
abbrev pub proc_of : ProcessPlan → ProcView
proc_of plan = proc_view plan.parts.number plan.parts.mailbox plan.parts.lanes.items plan.parts.seats.items plan.parts.soft.items [] 0 0

-- each worker can begin
pub record AreReadyWorkers (ports : ℕ) (workers : List WorkerLanes) : Type 0 where
  pub each : (n : ℕ) (d : WorkerLanes) → n < length workers → IsReadyWorker ports n (slice_index_or workers n d)

module _ {B : Type 0} {g : Ghosts B} where
  -- the job is to make the steps of this process, and hasn't run
  pub record IsDealtProcess (plan : ProcessPlan) (job : ProcessJob B g) : Type 0 where
    pub work : IfSome job.work (IsWorkOf (proc_of plan) plan.own_steps.steps.items plan.own_steps.files.items)
    pub end : job.end ≡ None

  pub record AreDealtProcesses (plans : List ProcessPlan) (jobs : List (ProcessJob B g)) : Type 0 where
    pub many : length jobs ≡ length plans
    pub each : (n : ℕ) (p : ProcessPlan) (d : ProcessJob B g) → n < length plans → IsDealtProcess (slice_index_or plans n p) (slice_index_or jobs n d)

  -- the job is to work what is in this lane, and hasn't run
  pub record IsDealtWorker (lanes : WorkerLanes) (job : WorkerJob B g) : Type 0 where
    pub jobs : job.jobs ≡ lanes.jobs
    pub lanes_are : job.lanes.items ≡ lanes.lanes.items
    pub end : job.end ≡ None

  pub record AreDealtWorkers (workers : List WorkerLanes) (jobs : List (WorkerJob B g)) : Type 0 where
    pub many : length jobs ≡ length workers
    pub each : (n : ℕ) (w : WorkerLanes) (d : WorkerJob B g) → n < length workers → IsDealtWorker (slice_index_or workers n w) (slice_index_or jobs n d)

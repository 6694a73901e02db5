-- What the jobs of a run are made of, and whether they can begin.
use Rattle.std.specs.Prelude.{◌≡◌, ◌<◌, ℕ, Bool, List, length, slice_index_or}
use Rattle.threaded_jobs.specs.process_job.port_model.declared.signal.Sender.TheVariants as sender
use Rattle.threaded_jobs.specs.process_job.process_end.Ports.{AreParts}
use Rattle.threaded_jobs.specs.process_job.Jobs.{AreAmong, AreWithin}
use Rattle.run_jobs.specs.Telling.{AreEndsOf}
use Rattle.run_lanes.specs.declared.parts.ProcessLanes.{ProcessLanes}
use Rattle.run_lanes.specs.declared.parts.WorkerLanes.{WorkerLanes}
use Rattle.run_seats.specs.declared.plans.ProcessSteps.{ProcessSteps}
use Rattle.run_seats.specs.declared.plans.ProcessPlan.{ProcessPlan}

-- the process of this number, with these lanes and these steps, whose ports have drivers that are soft-busy or not
pub record IsPlanOf (soft : List Bool) (number : ℕ) (lanes : ProcessLanes) (own_steps : ProcessSteps) (plan : ProcessPlan) : Type 0 where
  pub number_is : plan.parts.number ≡ number
  pub mailbox : plan.parts.mailbox ≡ lanes.mailbox
  pub lanes_are : plan.parts.lanes.items ≡ lanes.lanes.items
  pub seats : plan.parts.seats.items ≡ lanes.seats.items
  pub soft_are : plan.parts.soft.items ≡ soft
  pub own_steps_are : plan.own_steps ≡ own_steps

-- so is each process, by its number
pub record ArePlansOf (soft : List Bool) (processes : List ProcessLanes) (process_steps : List ProcessSteps) (plans : List ProcessPlan) : Type 0 where
  pub many : length plans ≡ length processes
  pub each : (n : ℕ) (l : ProcessLanes) (p : ProcessSteps) (d : ProcessPlan) → n < length processes
      → IsPlanOf soft n (slice_index_or processes n l) (slice_index_or process_steps n p) (slice_index_or plans n d)

-- a process can begin that has made no call: it has an end of each of so many ports and a seat of its words, and its steps name these ports and processes that are there
pub record IsReadyPlan (ports : ℕ) (plan : ProcessPlan) : Type 0 where
  pub parts : AreParts plan.parts.number plan.parts.mailbox plan.parts.lanes.items plan.parts.seats.items plan.parts.soft.items
  pub many : length plan.parts.lanes.items ≡ ports
  pub processes : ℕ
  pub among : AreAmong processes plan.parts.lanes.items
  pub within : AreWithin processes ports plan.own_steps.steps.items

-- so can the worker of this number
pub record IsReadyWorker (ports worker : ℕ) (lanes : WorkerLanes) : Type 0 where
  pub many : length lanes.lanes.items ≡ ports
  pub ends : AreEndsOf (sender.Worker worker) lanes.lanes.items

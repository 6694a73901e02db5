-- What the jobs of a run leave that nobody stopped, by what they were set up with.
use Rattle.std.specs.Prelude.{◌≡◌, ◌<◌, ℕ, List, [], All, length, slice_index_or}
use Rattle.async_jobs.specs.Pool.{PoolEnd}
use Rattle.run_end.specs.process_end.Views.{LaneEnd, proc_view}
use Rattle.run_end.specs.Ran.{RanProcess, HasRunWhole}
use Rattle.run_seats.specs.run_jobs.declared.finish.FinishEnd.TheVariants.{Told}
use Rattle.run_seats.specs.run_jobs.declared.worker.WorkerEnd.TheVariants.{Finished}
use Rattle.run_seats.specs.run_jobs.Finishing.{TellsWorkers}
use Rattle.run_seats.specs.run_jobs.Telling.{PortTask, Sends}
use Rattle.run_seats.specs.run_jobs.Working.{WorksTo}
use Rattle.run_end.specs.run_lanes.declared.parts.ProcessLanes.{ProcessLanes}
use Rattle.run_end.specs.run_lanes.declared.parts.WorkerLanes.{WorkerLanes}
use Rattle.run_seats.specs.declared.plans.ProcessSteps.{ProcessSteps}
use Rattle.run_seats.specs.threaded_jobs.declared.parting.WorkerLeft.{WorkerLeft}
use Rattle.run_opening.specs.Setting.{Setting}

-- the process of this number had these lanes and these steps to begin with, and had made no call
pub record IsSetUp (s : Setting) (number : ℕ) (lanes : ProcessLanes) (own_steps : ProcessSteps) (process : RanProcess) : Type 0 where
  pub old : process.old ≡ proc_view number lanes.mailbox lanes.lanes.items lanes.seats.items s.soft [] 0 0
  pub steps : process.steps ≡ own_steps.steps.items
  pub files : process.files ≡ own_steps.files.items

-- each process made its steps to its end
pub record HaveRunIn (s : Setting) (processes : List RanProcess) : Type 0 where
  pub many : length processes ≡ s.size.processes
  pub ran : All HasRunWhole processes
  pub each : (n : ℕ) (l : ProcessLanes) (p : ProcessSteps) (r : RanProcess) → n < s.size.processes
      → IsSetUp s n (slice_index_or s.lanes.processes.items n l) (slice_index_or s.process_steps n p) (slice_index_or processes n r)

-- the worker answered all that it took of its lane, up to a `Finish`
abbrev pub HasWorkedLane : WorkerLanes → WorkerLeft → Type 0
HasWorkedLane lanes left = WorksTo Finished lanes.jobs left.jobs lanes.lanes.items left.lanes.items

-- so did each worker
pub record HaveWorkedIn (s : Setting) (workers : List WorkerLeft) : Type 0 where
  pub many : length workers ≡ s.size.workers
  pub each : (n : ℕ) (w : WorkerLanes) (l : WorkerLeft) → n < s.size.workers → HasWorkedLane (slice_index_or s.lanes.workers.items n w) (slice_index_or workers n l)

-- the poller's ends of the ports' lanes sent something
abbrev pub HasToldPorts : Setting → List LaneEnd → Type 0
HasToldPorts s ends = (told : List PortTask) × Sends told s.lanes.poller.lanes.items ends

-- the last end of each worker's lane sent one `Finish`
abbrev pub HasToldWorkers : Setting → List PoolEnd → Type 0
HasToldWorkers s ends = TellsWorkers Told s.lanes.finish.workers.items ends

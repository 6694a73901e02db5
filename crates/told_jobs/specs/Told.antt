-- Jobs that workers tell done in the order in which they were submitted.
use Rattle.std.specs.Prelude.{◌≡◌, ℕ, ◌<◌, ◌≤◌, ◌%◌, ◌==◌, List, [], ◌++◌, length, map, filter, false}
use Rattle.std.specs.List.{range_with_len}
use Rattle.async_jobs.specs.Work.{work_of}
use Rattle.port_model.specs.declared.row.Row.{Row}
use Rattle.port_model.specs.declared.signal.Sender.TheVariants.{Worker}
use Rattle.port_model.specs.declared.signal.Signal.TheVariants.{AsyncDone}
use Rattle.port_model.specs.Tasks.{TaskView}
use Rattle.port_history.specs.Jobs.{Submitted}
use Rattle.port_history.specs.Lawful.{Lawful}
use Rattle.port_history.specs.Opening.{Opening}
use Rattle.port_history.specs.State.{state}
use Rattle.port_body.specs.recorded_port.Laws.{IsLawful}
use Rattle.port_body.specs.LanePort.{rows_from}

-- what a worker tells of a job
abbrev pub told_task : Submitted → TaskView
told_task job = record { signal = AsyncDone job.number (work_of job.code job.input); suspends = false; forced = false }

-- the jobs of one of so many workers: those whose key leaves its number
abbrev pub jobs_of_worker : ℕ → ℕ → List Submitted → List Submitted
jobs_of_worker workers worker jobs = filter (λ job. job.key % workers == worker) jobs

-- the tasks of a worker that have a row tell the first of these jobs, in their order
pub record TellsFirst (jobs : List Submitted) (told : List TaskView) : Type 0 where
  pub first : List Submitted
  pub rest : List Submitted
  pub are : jobs ≡ first ++ rest
  pub tells : told ≡ map told_task first

-- each of so many workers told the first of its jobs, and there is no other worker
pub record WorkersTell (workers : ℕ) (port : Opening) (history : List Row) : Type 0 where
  pub some : 0 < workers
  pub numbered : map (λ job. job.number) (state port history).jobs ≡ range_with_len 0 (length (state port history).jobs)
  pub told : (worker : ℕ) → worker < workers → TellsFirst (jobs_of_worker workers worker (state port history).jobs) (rows_from (Worker worker) history)
  pub others : (worker : ℕ) → workers ≤ worker → rows_from (Worker worker) history ≡ []

abbrev pub JobsToldInOrder : Type 0
JobsToldInOrder = (workers : ℕ) (port : Opening) (history : List Row) → IsLawful port history → WorkersTell workers port history → Lawful port history

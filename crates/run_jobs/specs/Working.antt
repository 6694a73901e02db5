-- What a worker of a run does.
use Rattle.std.specs.Prelude.{◌≡◌, ◌≤◌, ℕ, false, Some, List, [], ◌∷◌, ◌++◌, length, map}
use Rattle.port_words.specs.declared.home.homes.Ticket.{Ticket}
use Rattle.port_words.specs.over.Over.{OverKnown, HasNotStopped}
use Rattle.task_queue.specs.declared.item.Item.{Item}
use Rattle.async_jobs.specs.declared.job.Job.{Job}
use Rattle.async_jobs.specs.declared.job.WorkItem.{WorkItem}
use Rattle.async_jobs.specs.declared.job.WorkItem.TheVariants.{Work, Finish}
use Rattle.async_jobs.specs.Turns.{Worker, Took}
use Rattle.async_jobs.specs.Work.{work_of}
use Rattle.port_model.specs.declared.signal.Sender.TheVariants as sender
use Rattle.port_model.specs.declared.signal.Signal.TheVariants.{AsyncDone}
use Rattle.port_model.specs.Tasks.{TaskView}
use Rattle.process_end.specs.Views.{LaneEnd}
use Rattle.port_sched.specs.declared.body.PortBody.{Ghosts}
use Rattle.port_sched.specs.Homes.{AreHomes}
use Rattle.port_sched.specs.Running.{Looked, Stopped}
use Rattle.port_sched.specs.Waking.{Woke}
use Rattle.run_jobs.specs.declared.worker.WorkerTurn.{WorkerTurn}
use Rattle.run_jobs.specs.declared.worker.WorkerTurn.TheVariants as step
use Rattle.run_jobs.specs.declared.worker.WorkerEnd.{WorkerEnd}
use Rattle.run_jobs.specs.declared.worker.WorkerEnd.TheVariants as end
use Rattle.run_jobs.specs.declared.worker.WorkerJob.{WorkerJob}
use Rattle.run_jobs.specs.Stops.{SawStop}
use Rattle.run_jobs.specs.Telling.{PortTask, AreEndsOf, Sends}

-- a signal that neither suspends its sender nor is forced
abbrev pub done_task : ℕ → List ℕ → TaskView
done_task number output = record { signal = AsyncDone number output; suspends = false; forced = false }

-- how a port is told that its job was done
abbrev pub answer_to : Job → PortTask
answer_to job = record { port = job.port; task = done_task job.number (work_of job.code job.input) }

abbrev pub values : List (Item WorkItem) → List WorkItem
values items = map (λ (x : Item WorkItem). x.value) items

-- one turn: a job was taken and answered, the lane was empty, a `Finish` was taken, or a job was taken and memory was wanting
abbrev pub HasStepped : WorkerTurn → Worker → Worker → List LaneEnd → List LaneEnd → Type 0
HasStepped step.Answered old new lanes lanes' = (job : Job) × Took old (Work job) new × Sends (answer_to job ∷ []) lanes lanes'
HasStepped step.Empty old new lanes lanes' = (new ≡ old) × (lanes' ≡ lanes)
HasStepped step.Finished old new lanes lanes' = Took old Finish new × (lanes' ≡ lanes)
HasStepped step.NoMemory old new lanes lanes' =
    (job : Job) × Took old (Work job) new × ((told : List PortTask) × (left : List PortTask) × (answer_to job ∷ [] ≡ told ++ left) × Sends told lanes lanes')

-- the tickets that a turn keeps, and those that a worker keeps: one at most, for want of memory
abbrev pub KeptIn : WorkerTurn → List Ticket → Type 0
KeptIn step.NoMemory kept = length kept ≤ 1
KeptIn step kept = kept ≡ []

abbrev pub KeptAt : WorkerEnd → List Ticket → Type 0
KeptAt end.NoMemory kept = length kept ≤ 1
KeptAt end kept = kept ≡ []

-- what a worker took behind the jobs
abbrev pub taken_last : WorkerEnd → List WorkItem
taken_last end.Finished = Finish ∷ []
taken_last end = []

-- the answers that a worker left out: none, or one at most for want of memory
abbrev pub LeftAt : WorkerEnd → List PortTask → Type 0
LeftAt end.NoMemory left = length left ≤ 1
LeftAt end left = left ≡ []

-- The worker took these jobs and nothing else, but for a `Finish` at its end. It answered each in the order in which it took them, but for the last one where memory
-- was wanting: of each port's jobs, the port's lane got the answers
pub record WorksTo (how : WorkerEnd) (old new : Worker) (lanes lanes' : List LaneEnd) : Type 0 where
  pub items : List (Item WorkItem)
  pub jobs : List Job
  pub told : List PortTask
  pub left : List PortTask
  pub taken : new ≡ record old { taken = old.taken ++ items }
  pub values_are : values items ≡ map Work jobs ++ taken_last how
  pub answers : map answer_to jobs ≡ told ++ left
  pub left_at : LeftAt how left
  pub sends : Sends told lanes lanes'

-- what its seat of OVER saw and said
abbrev pub LooksAt : WorkerEnd → OverKnown → OverKnown → Type 0
LooksAt end.Finished old new = Looked old new
LooksAt end.Stopped old new = Looked old new × SawStop old new
LooksAt end.NoMemory old new = Looked old new

abbrev pub SaysAt : WorkerEnd → OverKnown → OverKnown → Type 0
SaysAt end.Finished old new = Looked old new
SaysAt end.Stopped old new = Looked old new × SawStop old new
SaysAt end.NoMemory old new = Stopped old new

module _ {B : Type 0} {g : Ghosts B} where
  -- its ends of the ports' lanes are those of a worker, one for each port whose home it has a seat of
  pub record CanWork (w : WorkerJob B g) : Type 0 where
    pub homes : AreHomes w.seats.homes.items
    pub ports : length w.seats.homes.items ≡ length w.lanes.items
    pub runs : HasNotStopped w.over.known.places
    pub worker : ℕ
    pub ends : AreEndsOf (sender.Worker worker) w.lanes.items

  -- a run of the worker
  pub record HasWorked (old new : WorkerJob B g) : Type 0 where
    pub how : WorkerEnd
    pub end_is : new.end ≡ Some how
    pub worked : WorksTo how old.jobs new.jobs old.lanes.items new.lanes.items
    pub over : SaysAt how old.over new.over
    pub kept : List Ticket
    pub kept_at : KeptAt how kept
    pub woke : Woke kept old.seats new.seats

-- What the job of a process needs, and what a run of it leaves.
use Rattle.std.specs.Prelude.{◌≡◌, ℕ, ◌<◌, ◌≤◌, List, [], All, length, Option, Some, None, Result, Ok, Err, IsSomeAnd, IfSome, slice_index_or}
use Rattle.port_words.specs.declared.home.homes.Ticket.{Ticket}
use Rattle.port_words.specs.over.Over.{OverKnown, HasToFinish, HasNotStopped, over_known, stopped_view}
use Rattle.port_sched.specs.declared.body.PortBody.{Ghosts}
use Rattle.port_sched.specs.Homes.{AreHomes}
use Rattle.port_sched.specs.Running.{Looked, Stopped}
use Rattle.port_sched.specs.Waking.{Woke}
use Rattle.process_end.specs.Views.{LaneEnd, ProcView}
use Rattle.process_end.specs.Calls.{HasAsked}
use Rattle.script_plan.specs.declared.step.Step.{Step}
use Rattle.script_plan.specs.Plan.{IsWithin}
use Rattle.process_job.specs.declared.job.ProcessWork.{ProcessWork}
use Rattle.process_job.specs.declared.job.ProcessEnd.{ProcessEnd}
use Rattle.process_job.specs.declared.job.ProcessEnd.TheVariants as ends
use Rattle.process_job.specs.declared.job.ProcessJob.{ProcessJob}
use Rattle.process_job.specs.declared.seats.ProcessSeats.{ProcessSeats}
use Rattle.process_job.specs.declared.job.EndedProcess.{EndedProcess}
use Rattle.process_job.specs.declared.halt.Halt.{Halt}
use Rattle.process_job.specs.declared.halt.Halt.TheVariants as halt
use Rattle.process_job.specs.Seats.{SawStop, HasFinished, SeatsHalted}
use Rattle.process_job.specs.Steps.{HasRunToEnd}

-- a process that has made no call and taken no mail
pub record IsFreshProcess (p : ProcView) : Type 0 where
  pub asked : HasAsked [] p
  pub receipts : p.receipts ≡ []
  pub undone : p.undone ≡ 0
  pub told : p.told ≡ 0
  pub untaken : p.mailbox.taken ≡ []

-- the lanes are those of ports among so many processes
abbrev pub AreAmong : ℕ → List LaneEnd → Type 0
AreAmong processes lanes = (k : ℕ) (d : LaneEnd) → k < length lanes → (slice_index_or lanes k d).key.processes ≡ processes

-- the steps name these ports, and processes among so many
abbrev pub AreWithin : ℕ → ℕ → List Step → Type 0
AreWithin processes ports steps = All (λ s. IsWithin processes ports s.act) steps

-- a process that can make its steps with so many ports
pub record CanMakeSteps (ports : ℕ) (work : ProcessWork) : Type 0 where
  pub fresh : IsFreshProcess work.proc
  pub many : length work.proc.lanes ≡ ports
  pub processes : ℕ
  pub among : AreAmong processes work.proc.lanes
  pub within : AreWithin processes ports work.steps.items

-- the process, its steps and its files are these
pub record IsWorkOf (proc : ProcView) (steps : List Step) (files : List (List ℕ)) (work : ProcessWork) : Type 0 where
  pub proc_is : work.proc ≡ proc
  pub steps_are : work.steps.items ≡ steps
  pub files_are : work.files.items ≡ files

-- What became of a process. It ended, and its seat of OVER said so; or it stopped as the run was stopped; or it found no memory, and stopped the run. The tickets
-- that are kept were dropped for want of memory
abbrev pub EndsAs : ProcessWork → List Ticket → OverKnown → OverKnown → Option ProcessEnd → Type 0
EndsAs work kept old new None = ⊥
EndsAs work kept old new (Some (ends.Ended end)) = HasRunToEnd work.steps.items work.files.items work.proc end.proc end.mails.items × HasFinished old new × (kept ≡ [])
EndsAs work kept old new (Some ends.Stopped) = Looked old new × SawStop new × (kept ≡ [])
EndsAs work kept old new (Some ends.NoMemory) = Stopped old new × (length kept ≤ 1)

-- what the end of a process that halts does to its seat of OVER: nothing where the run was stopped already, and else it stops the run
abbrev pub EndsHalted : Halt → OverKnown → OverKnown → ProcessEnd → Type 0
EndsHalted halt.Stopped old new end = (end ≡ ends.Stopped) × (new ≡ old)
EndsHalted halt.NoMemory old new end = (end ≡ ends.NoMemory) × ((found : ℕ) × (new ≡ over_known old.word (stopped_view old.known found)))

module _ {B : Type 0} {g : Ghosts B} where
  -- seats of each port's home that rest, in the order of ports, and a counted seat of OVER that has said nothing
  pub record CanRunSeats (seats : ProcessSeats B g) : Type 0 where
    pub homes : AreHomes seats.ports.homes.items
    pub counted : HasToFinish seats.over.known.size.counted seats.over.known.places
    pub runs : HasNotStopped seats.over.known.places

  -- what running a process leaves
  abbrev pub RanWork : ProcessWork → Result EndedProcess Halt → ProcessSeats B g → ProcessSeats B g → Type 0
  RanWork work (Ok end) old new = HasRunToEnd work.steps.items work.files.items work.proc end.proc end.mails.items × Woke [] old.ports new.ports × HasFinished old.over new.over
  RanWork work (Err halt) old new = SeatsHalted halt old new

  -- it hasn't run yet
  pub record CanRun (job : ProcessJob B g) : Type 0 where
    pub seats : CanRunSeats job.seats
    pub work : IsSomeAnd job.work (CanMakeSteps (length job.seats.ports.homes.items))

  -- It has run. Its seats are of the homes and the injector that they were of, and each of its tickets is accounted for
  pub record HasRun (old new : ProcessJob B g) : Type 0 where
    pub kept : List Ticket
    pub woke : Woke kept old.seats.ports new.seats.ports
    pub ends : IfSome old.work (λ work. EndsAs work kept old.seats.over new.seats.over new.end)

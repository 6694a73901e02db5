-- What a process does with its job's seats: it wakes ports, and looks whether the run was stopped.
use Rattle.std.specs.Prelude.{◌≡◌, ℕ, ◌<◌, ◌≤◌, List, [], ◌∷◌, ◌++◌, length, Result, Ok, Err}
use Rattle.port_words.specs.declared.home.homes.Ticket.{Ticket}
use Rattle.port_words.specs.over.Over.{OverKnown, over_known, finished_view, stopped_part}
use Rattle.port_sched.specs.declared.body.PortBody.{Ghosts}
use Rattle.port_sched.specs.Homes.{AreHomes}
use Rattle.port_sched.specs.Running.{Looked}
use Rattle.port_sched.specs.Waking.{Woke}
use Rattle.process_end.specs.Views.{ProcView}
use Rattle.process_job.specs.declared.halt.Halt.{Halt}
use Rattle.process_job.specs.declared.halt.Halt.TheVariants as halt
use Rattle.process_job.specs.declared.seats.ProcessSeats.{ProcessSeats}

-- the last look at OVER found that somebody has stopped the run
abbrev pub SawStop : OverKnown → Type 0
SawStop over = (before : List ℕ) × (word : ℕ) × (over.known.found ≡ before ++ word ∷ []) × (0 < stopped_part word)

-- the seat looked, and then said that its process has finished
abbrev pub HasFinished : OverKnown → OverKnown → Type 0
HasFinished old new = (between : OverKnown) × (found : ℕ) × Looked old between × (new ≡ over_known old.word (finished_view between.known found))

-- Why a process halts: a stop was found, and each ticket was put; or no memory was found, also for a ticket
abbrev pub HaltsWith : Halt → List Ticket → OverKnown → Type 0
HaltsWith halt.Stopped kept over = (kept ≡ []) × SawStop over
HaltsWith halt.NoMemory kept over = length kept ≤ 1

module _ {B : Type 0} {g : Ghosts B} where
  -- a seat of the home of each port of the process, in their order, none of which runs
  pub record HasPorts (seats : ProcessSeats B g) (p : ProcView) : Type 0 where
    pub homes : AreHomes seats.ports.homes.items
    pub many : length seats.ports.homes.items ≡ length p.lanes

  -- ports were woken, whose tickets were put but for those that are kept, and OVER was looked at
  pub record SeatsGo (kept : List Ticket) (old new : ProcessSeats B g) : Type 0 where
    pub woke : Woke kept old.ports new.ports
    pub looked : Looked old.over new.over

  -- the same of a process that halts
  abbrev pub SeatsHalted : Halt → ProcessSeats B g → ProcessSeats B g → Type 0
  SeatsHalted halt old new = (kept : List Ticket) × SeatsGo kept old new × HaltsWith halt kept new.over

  -- and by what a call answers
  abbrev pub SeatsAfter : {A : Type 0} → Result A Halt → ProcessSeats B g → ProcessSeats B g → Type 0
  SeatsAfter (Ok answer) old new = SeatsGo [] old new
  SeatsAfter (Err halt) old new = SeatsHalted halt old new

  -- what the end of a process leaves of its seats: its seat of OVER said that it has finished, and each ticket was put; or it halts
  abbrev pub SeatsAtEnd : {A : Type 0} → Result A Halt → ProcessSeats B g → ProcessSeats B g → Type 0
  SeatsAtEnd (Ok answer) old new = Woke [] old.ports new.ports × HasFinished old.over new.over
  SeatsAtEnd (Err halt) old new = SeatsHalted halt old new

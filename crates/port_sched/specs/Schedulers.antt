-- What a scheduler needs, and how one has ended.
use Rattle.std.specs.Prelude.{◌≤◌, ◌^◌, List, [], length, Option, Some, None, MatchOption}
use Rattle.port_words.specs.declared.home.homes.Ticket.{Ticket}
use Rattle.port_words.specs.over.Over.{OverKnown, HasNotStopped}
use Rattle.port_sched.specs.declared.body.PortBody.{Ghosts}
use Rattle.port_sched.specs.declared.counts.TurnCounts.{TurnCounts}
use Rattle.port_sched.specs.declared.scheduling.SchedEnd.{SchedEnd}
use Rattle.port_sched.specs.declared.scheduling.SchedEnd.TheVariants.{Done, NoMemory}
use Rattle.port_sched.specs.declared.scheduling.SchedSeats.{SchedSeats}
use Rattle.port_sched.specs.declared.schedulers.Scheduler.{Scheduler}
use Rattle.port_sched.specs.Counts.{AreCounts}
use Rattle.port_sched.specs.Homes.{AreHomes}
use Rattle.port_sched.specs.Serving.{KeptAtEnd}
use Rattle.port_sched.specs.Tickets.{Serves}
use Rattle.port_sched.specs.Running.{Looked, SawTheEnd, Stopped}

-- what the seat of OVER tells of an end: its last look found the end of the run, or it stopped the run itself
abbrev pub EndsAs : OverKnown → OverKnown → Option SchedEnd → Type 0
EndsAs old new None = ⊥
EndsAs old new (Some Done) = Looked old new × SawTheEnd old new
EndsAs old new (Some NoMemory) = Stopped old new

module _ {B : Type 0} {g : Ghosts B} where
  -- its seats of the homes rest, and its seat of OVER hasn't stopped the run
  pub record CanSchedule (seats : SchedSeats B g) : Type 0 where
    pub homes : AreHomes seats.homes.items
    pub few : length seats.homes.items ≤ 2 ^ 32
    pub stop : HasNotStopped seats.over.known.places

  -- each body it ran is home again, its seats are of the homes and queues that they were of, each of its tickets is accounted for, it has ended, and its turns are
  -- counted
  pub record Scheduled (old new : SchedSeats B g) (end : Option SchedEnd) (counts : TurnCounts) : Type 0 where
    pub homes : AreHomes new.homes.items
    pub tickets : (kept : List Ticket) × MatchOption end ⊥ (λ e. KeptAtEnd e kept) × Serves [] kept old.homes.items old.run new.homes.items new.run
    pub ends : EndsAs old.over new.over end
    pub turns : AreCounts counts old.homes.items new.homes.items

  abbrev pub CanBegin : Scheduler B g → Type 0
  CanBegin s = CanSchedule s.seats

  abbrev pub Ended : Scheduler B g → Scheduler B g → Type 0
  Ended old new = Scheduled old.seats new.seats new.end new.counts

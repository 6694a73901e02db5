-- What a job does that puts numbers.
use Rattle.std.specs.Prelude.{◌≡◌, List, length, Result}
use Rattle.port_words.specs.declared.home.homes.Ticket.{Ticket}
use Rattle.port_words.specs.over.Over.{HasNotStopped}
use Rattle.port_sched.specs.declared.body.PortBody.{Ghosts}
use Rattle.port_sched.specs.declared.waking.JobSeats.{JobSeats}
use Rattle.port_sched.specs.Homes.{AreHomes}
use Rattle.port_sched.specs.Serving.{KeptBy}
use Rattle.port_sched.specs.Waking.{Woke}
use Rattle.ticket_account.specs.Run.{HasWoken}
use Rattle.sched_load.specs.declared.putter.Putter.{Putter}

-- a call woke ports, and keeps a ticket only where it found no memory
abbrev pub HasPut : {B A E : Type 0} {g : Ghosts B} → Result A E → JobSeats B g → JobSeats B g → Type 0
HasPut result old new = (kept : List Ticket) × KeptBy result kept × Woke kept old new

-- it has an end of the lane of each port
pub record CanPut (p : Putter) : Type 0 where
  pub homes : AreHomes p.seats.homes.items
  pub ports : length p.seats.homes.items ≡ length p.lanes.items
  pub runs : HasNotStopped p.over.known.places

abbrev pub HasGoneOn : Putter → Putter → Type 0
HasGoneOn old new = HasWoken old.seats new.seats

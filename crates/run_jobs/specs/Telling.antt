-- The tasks that a job puts into the lanes of ports.
use Rattle.std.specs.Prelude.{◌≡◌, ◌<◌, ◌==◌, ℕ, if◌then◌else◌, None, List, [], ◌∷◌, ◌++◌, length, Result, Ok, Err, slice_index_or}
use Rattle.port_words.specs.declared.home.homes.Ticket.{Ticket}
use Rattle.port_model.specs.declared.signal.Sender.{Sender}
use Rattle.port_model.specs.Tasks.{TaskView}
use Rattle.process_end.specs.port_lanes.Keys.{sender_at}
use Rattle.process_end.specs.port_lanes.Parcels.{ParcelView}
use Rattle.process_end.specs.Views.{LaneEnd}
use Rattle.port_sched.specs.declared.body.PortBody.{Ghosts}
use Rattle.port_sched.specs.declared.waking.JobSeats.{JobSeats}
use Rattle.port_sched.specs.Serving.{KeptBy}
use Rattle.port_sched.specs.Waking.{Woke}

-- a task for the port of this number
pub record PortTask : Type 0 where
  pub port : ℕ
  pub task : TaskView

-- a task without a weight, as it lies in a lane
abbrev pub plain_parcel : TaskView → ParcelView
plain_parcel task = record { task = task; weight = None }

-- what the lane of a port gets of these, in order
abbrev pub parcels_for : ℕ → List PortTask → List ParcelView
parcels_for port [] = []
parcels_for port (t ∷ told) = if t.port == port then plain_parcel t.task ∷ parcels_for port told else parcels_for port told

-- Each end has sent what its port gets of these, behind all else. What is for a port that isn't there goes nowhere
pub record Sends (told : List PortTask) (old new : List LaneEnd) : Type 0 where
  pub many : length new ≡ length old
  pub each : (port : ℕ) (d : LaneEnd) → port < length old
      → slice_index_or new port d ≡ record (slice_index_or old port d) { sent = (slice_index_or old port d).sent ++ parcels_for port told }

-- the ends are those of this sender
abbrev pub AreEndsOf : Sender → List LaneEnd → Type 0
AreEndsOf sender lanes = (port : ℕ) (d : LaneEnd) → port < length lanes → sender_at (slice_index_or lanes port d).key (slice_index_or lanes port d).number ≡ sender

-- what a call leaves untold of these: nothing. Where it found no memory there was something to tell, of which it may leave anything
abbrev pub LeftBy : {A E : Type 0} → Result A E → List PortTask → List PortTask → Type 0
LeftBy (Ok answer) all left = left ≡ []
LeftBy (Err error) all left = 0 < length all

-- the first of these were told, and the others were left
pub record TellsOf {A E : Type 0} (result : Result A E) (all : List PortTask) (old new : List LaneEnd) : Type 0 where
  pub told : List PortTask
  pub left : List PortTask
  pub whole : all ≡ told ++ left
  pub left_by : LeftBy result all left
  pub sends : Sends told old new

-- a call woke ports, and keeps a ticket only where it found no memory
abbrev pub WakesBy : {B A E : Type 0} {g : Ghosts B} → Result A E → JobSeats B g → JobSeats B g → Type 0
WakesBy result old new = (kept : List Ticket) × KeptBy result kept × Woke kept old new

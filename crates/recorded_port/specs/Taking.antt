-- What has to hold of a task that a port takes in, and what that adds to its rows.
use Rattle.std.specs.Prelude.{◌≡◌, ◌⊎◌, ◌+◌, ◌≤◌, ℕ, List, [], ◌∷◌, ◌++◌, length, map, Bool, true, false, ◌&&◌, IfSome, Option, Some, None}
use Rattle.port_driver.specs.Faults.{failures_in, RisenBy}
use Rattle.port_words.specs.busy.Known.{PortKnown, WeightKnown}
use Rattle.port_lanes.specs.Parcels.{ParcelView}
use Rattle.port_mail.specs.port_links.Table.{IsAmong}
use Rattle.port_model.specs.port_signal.declared.mark.MarkKind.{MarkKind}
use Rattle.port_model.specs.port_signal.declared.outside.Outside.{Outside}
use Rattle.port_model.specs.declared.effect.Effect.{Effect}
use Rattle.port_model.specs.declared.row.Row.{Row}
use Rattle.port_model.specs.declared.row.Row.TheVariants.{Handled, Late, Mark}
use Rattle.port_model.specs.declared.signal.Sender.{Sender}
use Rattle.port_model.specs.Tasks.{TaskView}
use Rattle.port_lanes.specs.port_history.Laws.{is_next, is_listed_right, waits_where_busy}
use Rattle.port_lanes.specs.port_history.Marks.{is_busy}
use Rattle.served_port.specs.View.{IsSameServed, end_names}
use Rattle.served_port.specs.Outcomes.{is_handled}
use Rattle.recorded_port.specs.Asks.{command_sizes}
use Rattle.recorded_port.specs.View.{RecordedView, state_of, IsRecorded}

-- a task may come to its row: it is the next one of a sender who may send it, no unforced command is handled while the port is busy, and it was listed exactly
-- if it suspends
pub record MayWrite (v : RecordedView) (from : Sender) (seq : ℕ) (task : TaskView) : Type 0 where
  pub among : IsAmong v.port.state.links.processes from
  pub next : is_next (state_of v) from seq task.signal ≡ true
  pub free : is_handled (state_of v) from task.signal ≡ true → (waits_where_busy task && is_busy (state_of v).marks) ≡ false
  pub listed : is_listed_right (state_of v) from seq task ≡ true

-- and its weight is of the port's words
pub record MayTake (v : RecordedView) (from : Sender) (seq : ℕ) (parcel : ParcelView) : Type 0 where
  pub task : MayWrite v from seq parcel.task
  pub table : IfSome parcel.weight (λ w. w.table ≡ v.seat.table)

-- the row tells of the task, handled or late
abbrev pub TellsOf : Row → Sender → ℕ → TaskView → Type 0
TellsOf row from seq task = (row ≡ Late from seq task) ⊎ ((outside : List Outside) × (effects : List Effect) × (row ≡ Handled from seq task outside effects))

-- its row came behind the others, and then its marks: at most two, and none where the task is late
pub record Takes (old new : RecordedView) (from : Sender) (seq : ℕ) (task : TaskView) : Type 0 where
  pub row : Row
  pub marks : List MarkKind
  pub tells : TellsOf row from seq task
  pub rows : new.rows ≡ old.rows ++ row ∷ map Mark marks
  pub few : length marks ≤ 2
  pub quiet : is_handled (state_of old) from task.signal ≡ false → marks ≡ []
  pub suspended : new.suspended ≡ old.suspended

-- these rows came behind the others
pub record GrewTo (old new : List Row) : Type 0 where
  pub more : List Row
  pub rows : new ≡ old ++ more

-- the same words with the same set-up, and of senders the same seats that were joined
pub record IsSameSeat (old new : PortKnown) : Type 0 where
  pub table : new.table ≡ old.table
  pub setup : new.known.setup ≡ old.known.setup
  pub joined : new.known.senders ≡ old.known.senders

-- the words that were found came behind those found before
pub record FoundMore (old new : PortKnown) : Type 0 where
  pub more : List ℕ
  pub words : new.known.words ≡ old.known.words ++ more

-- where the driver's count of faults had risen by the failures that the rows told, it has by those that they tell now
abbrev pub CountsOn : RecordedView → RecordedView → Type 0
CountsOn old new = (first : ℕ) → RisenBy (failures_in old.rows) first old.port.state.service.faults → RisenBy (failures_in new.rows) first new.port.state.service.faults

-- the same port, with the same ends and words, of which the rows grew, and what its ends sent
pub record IsSameRecorded (old new : RecordedView) : Type 0 where
  pub opening : new.opening ≡ old.opening
  pub rows : GrewTo old.rows new.rows
  pub port : IsSameServed old.port new.port
  pub ends : end_names new.ends ≡ end_names old.ends
  pub seat : IsSameSeat old.seat new.seat
  pub places : new.suspended.places ≡ old.suspended.places
  pub failed : CountsOn old new

-- the rows that came took places for which there was room
abbrev pub UsesRoom : RecordedView → RecordedView → Type 0
UsesRoom old new = new.room + length new.rows ≡ old.room + length old.rows

-- the task's row is written: its marks are due, none where it is late, and a command's bytes are still in the message queue
pub record WritesTask (old new : RecordedView) (from : Sender) (seq : ℕ) (task : TaskView) : Type 0 where
  pub row : Row
  pub tells : TellsOf row from seq task
  pub rows : new.rows ≡ old.rows ++ row ∷ []
  pub quiet : is_handled (state_of old) from task.signal ≡ false → (state_of new).due ≡ []
  pub recorded : IsRecorded new (command_sizes task.signal)
  pub suspended : new.suspended ≡ old.suspended
  pub seat : new.seat ≡ old.seat

-- the mark that stood next is written
pub record WritesMark (old new : RecordedView) (left : List ℕ) : Type 0 where
  pub kind : MarkKind
  pub recorded : IsRecorded new left
  pub due : (state_of old).due ≡ kind ∷ (state_of new).due
  pub rows : new.rows ≡ old.rows ++ Mark kind ∷ []
  pub suspended : new.suspended ≡ old.suspended

-- or none was due
abbrev pub WritesNext : Bool → RecordedView → RecordedView → List ℕ → Type 0
WritesNext true old new left = WritesMark old new left
WritesNext false old new left = ((state_of old).due ≡ []) × (new ≡ old)

-- the marks that are due are written
pub record WritesMarks (old new : RecordedView) (left : List ℕ) : Type 0 where
  pub recorded : IsRecorded new left
  pub none_due : (state_of new).due ≡ []
  pub marks : List MarkKind
  pub many : length marks ≡ length (state_of old).due
  pub rows : new.rows ≡ old.rows ++ map Mark marks
  pub suspended : new.suspended ≡ old.suspended

-- the size of a weight, where there is one
abbrev pub sizes_of : Option WeightKnown → List ℕ
sizes_of None = []
sizes_of (Some weight) = weight.name.size ∷ []

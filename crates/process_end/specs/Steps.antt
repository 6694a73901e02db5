-- What one call does to a lane's end and to the seat of the port's words.
use Rattle.std.specs.Prelude.{◌≡◌, ℕ, ◌<◌, List, [], ◌∷◌, ◌++◌, map, true, Option, Some, None, length, slice_index}
use Rattle.port_words.specs.declared.busy.view.StatMark.{StatMark}
use Rattle.port_words.specs.busy.Known.{SendKnown, WeightKnown, send_known, AddsTo, FindsBusy, TakesBack}
use Rattle.port_words.specs.busy.Stat.{stat_of, Rises}
use Rattle.port_words.specs.busy.Steps.{saw}
use Rattle.port_model.specs.declared.signal.Signal.{Signal}
use Rattle.port_model.specs.Signals.{data_size, is_command}
use Rattle.port_model.specs.Tasks.{TaskView}
use Rattle.port_model.specs.declared.signal.Sender.TheVariants.{Process}
use Rattle.port_lanes.specs.port_history.Laws.{may_send}
use Rattle.port_lanes.specs.Parcels.{names_below}
use Rattle.process_receipts.specs.declared.how.How.{How}
use Rattle.process_receipts.specs.declared.receipt.Outcome.{Outcome}
use Rattle.process_receipts.specs.declared.receipt.Outcome.TheVariants.{Accepted, Suspended, Dropped}
use Rattle.process_receipts.specs.Asks.{Asked, add_how, task_of}
use Rattle.process_end.specs.Views.{LaneEnd}

-- the tasks that an end has put
abbrev pub tasks_of : LaneEnd → List TaskView
tasks_of lane = map (λ p. p.task) lane.sent

-- how many tasks were put into the lane of this port
abbrev pub sent_to : ℕ → List LaneEnd → ℕ
sent_to port lanes = slice_index (map (λ lane. length (tasks_of lane)) lanes) port

-- an end after it put this task behind the others
pub record HasPut (lane new : LaneEnd) (task : TaskView) : Type 0 where
  pub same : new ≡ record lane { sent = new.sent }
  pub tasks : tasks_of new ≡ tasks_of lane ++ task ∷ []

-- the process of this end may put this signal, which names a process that is there
pub record MayPut (lane : LaneEnd) (signal : Signal) : Type 0 where
  pub process : lane.number < lane.key.processes
  pub sends : may_send (Process lane.number) signal ≡ true
  pub named : names_below lane.key.processes signal ≡ true

-- the process of this end may put this signal, and add its bytes with this seat
pub record MaySend (signal : Signal) (lane : LaneEnd) (seat : SendKnown) : Type 0 where
  pub may : MayPut lane signal
  pub few : is_command signal ≡ true → length seat.sender.ledger.adds < 131072
  pub table : lane.key.table ≡ seat.table

-- the seat after a look that found this STAT word
abbrev pub looked : SendKnown → ℕ → SendKnown
looked seat stat = send_known seat.table seat.setup (saw seat.sender stat)

-- the word is that of a beginning of the port's marks, none shorter than those of the words that the sender saw before
pub record Looks (seat : SendKnown) (stat : ℕ) : Type 0 where
  pub marks : List StatMark
  pub is : stat ≡ stat_of marks
  pub rises : Rises marks 0 (seat.sender.stats ++ stat ∷ [])

-- the seat after a command of this size added its bytes
pub record HasAdded (how : How) (size : ℕ) (seat new : SendKnown) (msgq : ℕ) : Type 0 where
  pub weight : WeightKnown
  pub adds : AddsTo seat new (add_how how) size msgq weight

-- the seat after such an add that was taken back
pub record HasUndone (how : How) (size : ℕ) (seat new : SendKnown) : Type 0 where
  pub between : SendKnown
  pub msgq : ℕ
  pub weight : WeightKnown
  pub left : ℕ
  pub adds : AddsTo seat between (add_how how) size msgq weight
  pub takes_back : TakesBack between new weight.name left

-- What a call's steps did to its seat, by the outcome and the words of its receipt. With no STAT word there was no step; with one a look; with an MSGQ word an add
-- behind the look, which the queue refused where the command was dropped
abbrev pub HasStepped : Asked → SendKnown → SendKnown → Outcome → Option ℕ → Option ℕ → Type 0
HasStepped ask seat new outcome None None = new ≡ seat
HasStepped ask seat new outcome (Some stat) None = (new ≡ looked seat stat) × Looks seat stat
HasStepped ask seat new Dropped (Some stat) (Some msgq) = FindsBusy (looked seat stat) new (add_how ask.how) msgq × Looks seat stat
HasStepped ask seat new outcome (Some stat) (Some msgq) = HasAdded ask.how (data_size ask.signal) (looked seat stat) new msgq × Looks seat stat
HasStepped ask seat new outcome None (Some msgq) = ⊥

-- what a call with this outcome did to its port's lane: it put its task, or nothing
abbrev pub HasSent : Asked → LaneEnd → LaneEnd → Outcome → Type 0
HasSent ask lane new Accepted = HasPut lane new (task_of ask Accepted)
HasSent ask lane new Suspended = HasPut lane new (task_of ask Suspended)
HasSent ask lane new outcome = new ≡ lane

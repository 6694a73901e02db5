-- What becomes of a command that found its port open.
use Rattle.std.specs.Prelude.{◌≡◌, ℕ, Bool, Some, None, length, ◌&&◌, ◌||◌, if◌then◌else◌}
use Rattle.port_words.specs.busy.Known.{SendKnown, FindsBusy}
use Rattle.port_model.specs.declared.signal.Signal.{Signal}
use Rattle.port_model.specs.Signals.{data_size}
use Rattle.port_model.specs.Tasks.{TaskView}
use Rattle.port_lanes.specs.port_history.Suspension.{is_queue_busy}
use Rattle.process_receipts.specs.declared.how.How.{How}
use Rattle.process_receipts.specs.declared.receipt.Outcome.{Outcome}
use Rattle.process_receipts.specs.declared.receipt.Outcome.TheVariants.{Accepted, Suspended, Dropped}
use Rattle.process_receipts.specs.declared.receipt.Receipt.{Receipt}
use Rattle.process_receipts.specs.Asks.{add_how, is_forcing, is_stopping}
use Rattle.process_end.specs.Views.{LaneEnd}
use Rattle.process_end.specs.Steps.{tasks_of, HasAdded, HasPut}
use Rattle.process_end.specs.declared.added.CommandAdded.{CommandAdded}
use Rattle.process_end.specs.declared.added.CommandAdded.TheVariants as added

abbrev pub command_task : Signal → How → Bool → TaskView
command_task signal how suspends = record { signal = signal; suspends = suspends; forced = is_forcing how }

-- the command was put at this place, and its add left this word; it suspends its sender where the port or the queue is busy
pub record IsPutCommand (how : How) (signal : Signal) (busy : Bool) (lane new_lane : LaneEnd) (seat new_seat : SendKnown) (msgq seq : ℕ) (suspends : Bool) : Type 0 where
  pub adds : HasAdded how (data_size signal) seat new_seat msgq
  pub put : HasPut lane new_lane (command_task signal how suspends)
  pub place : seq ≡ length (tasks_of lane)
  pub stops : suspends ≡ (is_stopping how && (busy || is_queue_busy msgq))

abbrev pub IsAdded : How → Signal → Bool → LaneEnd → LaneEnd → SendKnown → SendKnown → CommandAdded → Type 0
IsAdded how signal busy lane new_lane seat new_seat (added.Dropped msgq) = FindsBusy seat new_seat (add_how how) msgq × (new_lane ≡ lane)
IsAdded how signal busy lane new_lane seat new_seat (added.Put msgq seq suspends) = IsPutCommand how signal busy lane new_lane seat new_seat msgq seq suspends

abbrev pub put_outcome : Bool → Outcome
put_outcome suspends = if suspends then Suspended else Accepted

-- the receipt of such a command, which found this STAT word
abbrev pub receipt_of : ℕ → ℕ → ℕ → CommandAdded → Receipt
receipt_of line port stat (added.Dropped msgq) = record { line = line; port = port; seq = None; stat = Some stat; msgq = Some msgq; outcome = Dropped }
receipt_of line port stat (added.Put msgq seq suspends) =
    record { line = line; port = port; seq = Some seq; stat = Some stat; msgq = Some msgq; outcome = put_outcome suspends }

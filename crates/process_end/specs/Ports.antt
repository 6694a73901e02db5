-- What always holds of a process and its ports.
use Rattle.std.specs.Prelude.{◌≡◌, ◌≢◌, ℕ, ◌<◌, ◌≤◌, List, [], Bool, length, slice_index_or}
use Rattle.task_queue.specs.Ends.{Taking}
use Rattle.port_words.specs.busy.Views.{fresh_sender}
use Rattle.port_model.specs.declared.mail.Mail.{Mail}
use Rattle.port_words.specs.busy.Known.{SendKnown}
use Rattle.process_receipts.specs.Ledgers.{ArePlaced, OncePlain, IsFree, IsWaiting}
use Rattle.process_end.specs.Views.{LaneEnd, ProcView, StoppedView, calls_of}

-- The lane's end is that of the process, and the port's words are those of the seat; the seat made at most one add for each call, and of its plain adds that left one
-- and the same odd period at most one wasn't taken back
pub record IsPort (number calls : ℕ) (lane : LaneEnd) (seat : SendKnown) : Type 0 where
  pub end : lane.number ≡ number
  pub process : number < lane.key.processes
  pub table : lane.key.table ≡ seat.table
  pub few : length seat.sender.ledger.adds ≤ calls
  pub placed : ArePlaced seat.sender.ledger
  pub once : OncePlain seat.sender.ledger

pub record ArePorts (p : ProcView) : Type 0 where
  pub seats : length p.seats ≡ length p.lanes
  pub soft : length p.soft ≡ length p.lanes
  pub each : (k : ℕ) (d : LaneEnd) (e : SendKnown) → k < length p.lanes → IsPort p.number (calls_of p) (slice_index_or p.lanes k d) (slice_index_or p.seats k e)
  pub undone : p.undone ≤ 131072
  pub told : p.told ≤ length p.lanes

-- it may send to each port
abbrev pub AllFree : ProcView → Type 0
AllFree p = (k : ℕ) (d : SendKnown) → k < length p.lanes → IsFree (slice_index_or p.seats k d).sender

-- it may send to each port but that of the note, where it waits
pub record HasStopped (s : StoppedView) : Type 0 where
  pub port : s.note.port < length s.proc.lanes
  pub waiting : (d : SendKnown) → IsWaiting s.note.msgq (slice_index_or s.proc.seats s.note.port d).sender
  pub others : (k : ℕ) (d : SendKnown) → k < length s.proc.lanes → k ≢ s.note.port → IsFree (slice_index_or s.proc.seats k d).sender

-- What a process has to begin with: lanes, seats and soft are those of the same ports, each lane's end has the process's number, which is below the number of
-- processes of its key, the table of that key is that of the seat, and nothing was taken, sent, found or added
pub record AreParts (number : ℕ) (mailbox : Taking Mail (Unit {0})) (lanes : List LaneEnd) (seats : List SendKnown) (soft : List Bool) : Type 0 where
  pub seats_many : length seats ≡ length lanes
  pub soft_many : length soft ≡ length lanes
  pub ends : (k : ℕ) (d : LaneEnd) → k < length lanes
      → ((slice_index_or lanes k d).number ≡ number) × (number < (slice_index_or lanes k d).key.processes) × ((slice_index_or lanes k d).sent ≡ [])
  pub tables : (k : ℕ) (d : LaneEnd) (e : SendKnown) → k < length lanes → (slice_index_or lanes k d).key.table ≡ (slice_index_or seats k e).table
  pub fresh : (k : ℕ) (e : SendKnown) → k < length lanes → (slice_index_or seats k e).sender ≡ fresh_sender (slice_index_or seats k e).sender.ledger.number
  pub untaken : mailbox.taken ≡ []

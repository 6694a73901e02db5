-- What contracts see of a process.
use Rattle.std.specs.Prelude.{ℕ, ◌+◌, Bool, List, length, reverse}
use Rattle.task_queue.specs.Ends.{Sending, Taking}
use Rattle.port_words.specs.busy.Known.{SendKnown}
use Rattle.port_model.specs.declared.mail.Mail.{Mail}
use Rattle.suspend_list.specs.declared.note.StopNote.{StopNote}
use Rattle.port_lanes.specs.Keys.{Key}
use Rattle.port_lanes.specs.Parcels.{ParcelView}
use Rattle.process_receipts.specs.declared.receipt.Receipt.{Receipt}

-- the sending end of a port's lane
abbrev pub LaneEnd : Type 0
LaneEnd = Sending ParcelView Key

-- A process that may send: its number, the taking end of its mailbox, for each port the lane's end, the seat of its words and whether its driver takes forced
-- commands while the port is busy; its receipts, newest first; how many calls found no memory after their add, which was taken back; and how many ports it
-- has told of its end
pub record ProcView : Type 0 where
  pub number : ℕ
  pub mailbox : Taking Mail (Unit {0})
  pub lanes : List LaneEnd
  pub seats : List SendKnown
  pub soft : List Bool
  pub receipts : List Receipt
  pub undone : ℕ
  pub told : ℕ

-- a process that is suspended: what it has, the note of the command that suspended it, and whether that command's resume has come
pub record StoppedView : Type 0 where
  pub proc : ProcView
  pub note : StopNote
  pub resumed : Bool

-- how many calls the process made: each has a receipt, but those whose add was taken back
abbrev pub calls_of : ProcView → ℕ
calls_of p = length p.receipts + p.undone

abbrev pub proc_view : ℕ → Taking Mail (Unit {0}) → List LaneEnd → List SendKnown → List Bool → List Receipt → ℕ → ℕ → ProcView
proc_view number mailbox lanes seats soft receipts undone told = record {
  number = number;
  mailbox = mailbox;
  lanes = lanes;
  seats = seats;
  soft = soft;
  receipts = reverse receipts;
  undone = undone;
  told = told;
}

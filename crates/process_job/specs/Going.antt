-- What a process does from one moment to a later one.
use Rattle.std.specs.Prelude.{◌≡◌, ℕ, List, [], ◌++◌, length, map, true, Some, None, slice_index_or}
use Rattle.process_end.specs.task_queue.Items.{of}
use Rattle.std.specs.List.{AllByRecursion}
use Rattle.port_model.specs.declared.mail.Mail.{Mail}
use Rattle.port_words.specs.busy.Known.{SendKnown}
use Rattle.process_end.specs.process_receipts.declared.receipt.Receipt.{Receipt}
use Rattle.process_end.specs.process_receipts.Asks.{Asked}
use Rattle.process_end.specs.process_receipts.Ledgers.{saw_closed}
use Rattle.process_end.specs.Views.{LaneEnd, ProcView}
use Rattle.process_end.specs.Calls.{HasAsked}
use Rattle.process_end.specs.Mailbox.{Mailbox}
use Rattle.process_job.specs.Mails.{Came, mail_from, own_mails, readable, AreReplied}
use Rattle.process_job.specs.Waits.{AgreesClosed, FoundClosed}

-- a process and its mail
pub record ProcessState : Type 0 where
  pub proc : ProcView
  pub mails : List Mail

abbrev pub state : ProcView → List Mail → ProcessState
state proc mails = record { proc = proc; mails = mails }

-- an end of the same lane, with the same number, and a seat of the same table, of the same sender: what it saw closed stays so
abbrev pub IsSameEnd : LaneEnd → LaneEnd → Type 0
IsSameEnd old new = new ≡ record old { sent = new.sent }

pub record IsSameSeat (old new : SendKnown) : Type 0 where
  pub table : new.table ≡ old.table
  pub setup : new.setup ≡ old.setup
  pub number : new.sender.ledger.number ≡ old.sender.ledger.number
  pub closed : saw_closed old.sender.stats ≡ true → saw_closed new.sender.stats ≡ true

-- The ends and seats of the same ports, in their order
pub record AreSamePorts (lanes new_lanes : List LaneEnd) (seats new_seats : List SendKnown) : Type 0 where
  pub lanes_many : length new_lanes ≡ length lanes
  pub seats_many : length new_seats ≡ length seats
  pub ends : (k : ℕ) (d : LaneEnd) → IsSameEnd (slice_index_or lanes k d) (slice_index_or new_lanes k d)
  pub same_seats : (k : ℕ) (d : SendKnown) → IsSameSeat (slice_index_or seats k d) (slice_index_or new_seats k d)

-- what was taken of the mailbox, but for the mail that resumes, came in its order
pub record HasHeard (came : List Came) (old new : Mailbox) : Type 0 where
  pub same : new ≡ record old { taken = new.taken }
  pub ports : (port : ℕ) → readable (of port new.taken) ≡ readable (of port old.taken) ++ mail_from (Some port) came

-- A process went on: it made these calls and got these receipts, both newest first, and this mail came, oldest first. No receipt shows a port open that was found closed before
pub record Goes (asks : List Asked) (receipts : List Receipt) (came : List Came) (old new : ProcessState) : Type 0 where
  pub number : new.proc.number ≡ old.proc.number
  pub soft : new.proc.soft ≡ old.proc.soft
  pub undone : new.proc.undone ≡ old.proc.undone
  pub told : new.proc.told ≡ old.proc.told
  pub ports : AreSamePorts old.proc.lanes new.proc.lanes old.proc.seats new.proc.seats
  pub many : length asks ≡ length receipts
  pub receipts_are : new.proc.receipts ≡ receipts ++ old.proc.receipts
  pub closed : (k : ℕ) → FoundClosed k old.proc.seats → AllByRecursion (AgreesClosed k) receipts
  pub asked : (before : List Asked) → HasAsked before old.proc → HasAsked (asks ++ before) new.proc
  pub heard : HasHeard came old.proc.mailbox new.proc.mailbox
  pub own : mail_from None came ≡ own_mails asks receipts
  pub mails_are : new.mails ≡ old.mails ++ map (λ c. c.mail) came

-- the same, and the calls that are answered have their answers
pub record MakesCalls (asks : List Asked) (receipts : List Receipt) (came : List Came) (old new : ProcessState) : Type 0 where
  pub goes : Goes asks receipts came old new
  pub replied : AreReplied asks receipts new.mails

-- it waited: no call was made, and mail came
abbrev pub Waits : ProcessState → ProcessState → Type 0
Waits old new = (came : List Came) × Goes [] [] came old new

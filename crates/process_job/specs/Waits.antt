-- When a step has waited enough.
use Rattle.std.specs.Prelude.{◌≡◌, ◌⊎◌, ℕ, ◌≤◌, ◌==◌, List, [], ◌∷◌, length, drop, reverse, true, false, Option, Some, None, IfSome, if◌then◌else◌, slice_index_or}
use Rattle.std.specs.List.{AllByRecursion}
use Rattle.port_model.specs.declared.mail.Mail.{Mail}
use Rattle.port_words.specs.busy.Known.{SendKnown}
use Rattle.port_words.specs.busy.Stat.{tells_closed}
use Rattle.process_end.specs.process_receipts.declared.receipt.Receipt.{Receipt}
use Rattle.process_end.specs.process_receipts.Ledgers.{saw_closed}
use Rattle.script_plan.specs.declared.step.Step.{Step}
use Rattle.script_plan.specs.declared.step.Act.{Act}
use Rattle.script_plan.specs.declared.step.Act.TheVariants.{Expect, Bytes}
use Rattle.script_plan.specs.Monitors.{is_die}
use Rattle.process_job.specs.Asks.{asks_of, files_after, made_of_step, next_content}
use Rattle.process_job.specs.Mails.{messages_of, bytes_of}

-- a load of the port's STAT, by a call or a look, found the port closed
abbrev pub FoundClosed : ℕ → List SendKnown → Type 0
FoundClosed port seats = (d : SendKnown) → saw_closed (slice_index_or seats port d).sender.stats ≡ true

-- the mail has so much data of the port for which the act waits, or the port was found closed
abbrev pub HasWaited : List Mail → List SendKnown → Act → Type 0
HasWaited mails seats (Expect port count) = (count ≤ messages_of port mails) ⊎ FoundClosed port seats
HasWaited mails seats (Bytes port count) = (count ≤ bytes_of port mails) ⊎ FoundClosed port seats
HasWaited mails seats _ = Unit {0}

-- the last of these receipts that is for this port. They are read newest first
abbrev pub last_receipt : ℕ → List Receipt → Option Receipt
last_receipt port [] = None
last_receipt port (receipt ∷ older) = if receipt.port == port then Some receipt else last_receipt port older

-- the STAT word of a receipt, if there are both
abbrev pub stat_shown : Option Receipt → Option ℕ
stat_shown None = None
stat_shown (Some receipt) = receipt.stat

-- the last receipt for this port shows that it was closed
pub record ShowsClosed (port : ℕ) (receipts : List Receipt) : Type 0 where
  pub stat : ℕ
  pub shown : stat_shown (last_receipt port receipts) ≡ Some stat
  pub closed : tells_closed stat ≡ true

-- a receipt for this port that has a STAT word shows that it was closed
abbrev pub AgreesClosed : ℕ → Receipt → Type 0
AgreesClosed port receipt = receipt.port ≡ port → IfSome receipt.stat (λ stat. tells_closed stat ≡ true)

-- So does each of these receipts, read oldest first, and the last one for the port has such a word
pub record StaysClosed (port : ℕ) (receipts : List Receipt) : Type 0 where
  pub each : AllByRecursion (AgreesClosed port) receipts
  pub last : ShowsClosed port (reverse receipts)

-- the mail has so much data of the port for which the act waits, or the port is closed by the receipts of the calls behind the act
abbrev pub WaitIsShown : List Mail → List Receipt → Act → Type 0
WaitIsShown mails behind (Expect port count) = (count ≤ messages_of port mails) ⊎ StaysClosed port behind
WaitIsShown mails behind (Bytes port count) = (count ≤ bytes_of port mails) ⊎ StaysClosed port behind
WaitIsShown mails behind _ = Unit {0}

-- So it is of each step, up to the one that ends the process. `receipts` are those of the calls of these steps and of all that the process made later, oldest first; `files` has the contents of the steps' files
abbrev pub WaitsAreShown : List Mail → List Receipt → List Step → List (List ℕ) → Type 0
WaitsAreShown mails receipts [] files = Unit {0}
WaitsAreShown mails receipts (step ∷ steps) files = WaitIsShown mails receipts step.act
    × (is_die step.act ≡ false → WaitsAreShown mails (drop (length (made_of_step (asks_of step.line step.act (next_content files)) receipts)) receipts) steps (files_after step.act files))

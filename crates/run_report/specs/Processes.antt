-- What a report counts for a process.
use Rattle.std.specs.Prelude.{◌≡◌, ◌<◌, ◌+◌, ℕ, List, Bool, false, ◌&&◌, length, get_or, count_by, sum_by}
use Rattle.port_model.specs.declared.row.Row.{Row}
use Rattle.port_model.specs.declared.row.Row.TheVariants.{Handled, Late}
use Rattle.port_model.specs.Signals.{is_command}
use Rattle.port_history.specs.Opening.{is_process}
use Rattle.process_receipts.specs.declared.receipt.Receipt.{Receipt}
use Rattle.process_receipts.specs.Asks.{is_suspended}
use Rattle.process_receipts.specs.Counts.{is_dropped}
use Rattle.journal_text.specs.declared.book.PortReport.{PortReport}

-- a command, in either form, that this process put: handled or late
abbrev pub is_command_of : ℕ → Row → Bool
is_command_of process (Handled from seq task outside effects) = is_command task.signal && is_process process from
is_command_of process (Late from seq task) = is_command task.signal && is_process process from
is_command_of process row = false

-- how many commands of this process were put, over the histories of all ports
abbrev pub commands_of : ℕ → List PortReport → ℕ
commands_of process ports = sum_by (λ port. count_by (is_command_of process) port.journal.rows) ports

-- how many receipts are of a dropped command, and how many of one that suspended the process: no other signal has such a receipt
abbrev pub dropped_receipts : List Receipt → ℕ
dropped_receipts receipts = count_by (λ receipt. is_dropped receipt.outcome) receipts

abbrev pub suspended_receipts : List Receipt → ℕ
suspended_receipts receipts = count_by (λ receipt. is_suspended receipt.outcome) receipts

-- both lists have as many counts, and each count of the newer is so many more
pub record HasMore (more : ℕ → ℕ) (older newer : List ℕ) : Type 0 where
  pub len : length newer ≡ length older
  pub counts : (process : ℕ) → process < length older → get_or newer process 0 ≡ get_or older process 0 + more process

-- The calls that suspended a process are those for which it was listed, and after which it was resumed.
use Rattle.std.specs.Prelude.{◌≡◌, ℕ, ◌<◌, ◌≤◌, List, length, nat_eq, count_by, All, Bool}
use Rattle.std.specs.List.Sorted.{IsStrictlyIncreasing}
use Rattle.port_model.specs.declared.row.Row.{Row}
use Rattle.port_model.specs.declared.signal.Sender.TheVariants.{Process}
use Rattle.port_body.specs.Ends.{HasListedInOrder}
use Rattle.port_body.specs.LanePort.{rows_from}
use Rattle.port_history.specs.Lawful.{Lawful, IsFinished}
use Rattle.port_history.specs.Opening.{Opening}
use Rattle.port_history.specs.State.{state}
use Rattle.process_receipts.specs.declared.receipt.Receipt.{Receipt}
use Rattle.process_receipts.specs.Asks.{Asked}
use Rattle.process_receipts.specs.Receipts.{AreReceipts, accepted}
use Rattle.suspended_calls.specs.Numbers.{suspended_numbers, listed_numbers, resumed_numbers}

-- A lawful history of a port, and the calls of a process with their receipts: the tasks of the process that have a row are those that its receipts show accepted
pub record HasRows (port : Opening) (number process : ℕ) (history : List Row) (soft : List Bool) (asks : List Asked) (receipts : List Receipt) : Type 0 where
  pub lawful : Lawful port history
  pub are_receipts : AreReceipts soft asks receipts
  pub tasks : rows_from (Process process) history ≡ accepted number asks receipts

-- the calls for which a process was listed came in their order, and each has a row
pub record AreInOrder (process : ℕ) (history : List Row) : Type 0 where
  pub rising : IsStrictlyIncreasing (listed_numbers process history)
  pub have_rows : All (λ seq. seq < length (rows_from (Process process) history)) (listed_numbers process history)

-- no call is listed twice, and of the calls that have a row those are listed that suspended the process
pub record ListsSuspended (number process : ℕ) (history : List Row) (receipts : List Receipt) : Type 0 where
  pub once : (seq : ℕ) → count_by (nat_eq seq) (listed_numbers process history) ≤ 1
  pub same : (seq : ℕ) → seq < length (rows_from (Process process) history)
      → count_by (nat_eq seq) (listed_numbers process history) ≡ count_by (nat_eq seq) (suspended_numbers number receipts)

abbrev pub ResumedCallsAreListed : Type 0
ResumedCallsAreListed = (port : Opening) (process : ℕ) (history : List Row) → Lawful port history → IsFinished port history → resumed_numbers process history ≡ listed_numbers process history

abbrev pub ListedCallsAreSuspended : Type 0
ListedCallsAreSuspended = (port : Opening) (number process : ℕ) (history : List Row) (soft : List Bool) (asks : List Asked) (receipts : List Receipt)
    → HasRows port number process history soft asks receipts → ListsSuspended number process history receipts

abbrev pub ListedCallsAreInOrder : Type 0
ListedCallsAreInOrder = (port : Opening) (process : ℕ) (history : List Row) → HasListedInOrder (state port history) → AreInOrder process history

abbrev pub SuspendedCallsAreListed : Type 0
SuspendedCallsAreListed = (port : Opening) (number process : ℕ) (history : List Row) (soft : List Bool) (asks : List Asked) (receipts : List Receipt)
    → HasRows port number process history soft asks receipts → IsFinished port history → AreInOrder process history
    → (listed_numbers process history ≡ suspended_numbers number receipts) × (resumed_numbers process history ≡ suspended_numbers number receipts)

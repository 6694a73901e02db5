-- The calls that suspended a process, by their numbers: in its receipts, and in the rows of a port. Receipts and rows stand newest first, and the numbers oldest first.
use Rattle.std.specs.Prelude.{ℕ, ◌==◌, List, [], ◌∷◌, ◌++◌, ◌&&◌, if◌then◌else◌}
use Rattle.port_model.specs.declared.row.Row.{Row}
use Rattle.port_model.specs.declared.row.Row.TheVariants.{Listed, Resumed}
use Rattle.port_model.specs.declared.signal.Sender.{Sender}
use Rattle.port_model.specs.declared.signal.Sender.TheVariants.{Process}
use Rattle.port_history.specs.Opening.{same_sender}
use Rattle.process_receipts.specs.declared.receipt.Receipt.{Receipt}
use Rattle.process_receipts.specs.Asks.{is_suspended}
use Rattle.process_receipts.specs.Receipts.{word_list}

-- the number of a call that suspended its process at this port
abbrev pub number_suspended : ℕ → Receipt → List ℕ
number_suspended port receipt = if (receipt.port == port) && is_suspended receipt.outcome then word_list receipt.seq else []

-- the numbers of the calls that suspended their process at this port
abbrev pub suspended_numbers : ℕ → List Receipt → List ℕ
suspended_numbers port [] = []
suspended_numbers port (receipt ∷ receipts) = suspended_numbers port receipts ++ number_suspended port receipt

-- the number of a task, if its sender is this process
abbrev pub number_from : ℕ → Sender → ℕ → List ℕ
number_from process from seq = if same_sender (Process process) from then seq ∷ [] else []

-- the numbers of the calls for which a process was listed
abbrev pub listed_numbers : ℕ → List Row → List ℕ
listed_numbers process [] = []
listed_numbers process (Listed from seq ∷ older) = listed_numbers process older ++ number_from process from seq
listed_numbers process (row ∷ older) = listed_numbers process older

-- the numbers of the calls after which a process was resumed
abbrev pub resumed_numbers : ℕ → List Row → List ℕ
resumed_numbers process [] = []
resumed_numbers process (Resumed from seq word ∷ older) = resumed_numbers process older ++ number_from process from seq
resumed_numbers process (row ∷ older) = resumed_numbers process older

-- What a report counts in the receipts of a process, beside its calls.
use Rattle.std.specs.Prelude.{ℕ, ◌+◌, List, [], ◌∷◌, Bool, true, false, ◌&&◌}
use Rattle.port_words.specs.sums.Counts.{one_if}
use Rattle.port_history.specs.port_model.Signals.{is_command}
use Rattle.process_receipts.specs.declared.receipt.Outcome.{Outcome}
use Rattle.process_receipts.specs.declared.receipt.Outcome.TheVariants.{Dropped}
use Rattle.process_receipts.specs.declared.receipt.Receipt.{Receipt}
use Rattle.process_receipts.specs.Asks.{Asked, is_suspended}
use Rattle.process_receipts.specs.Receipts.{is_put}

abbrev pub is_dropped : Outcome → Bool
is_dropped Dropped = true
is_dropped outcome = false

-- how many calls made a command with such an outcome
abbrev pub commands_with : (Outcome → Bool) → List Asked → List Receipt → ℕ
commands_with test [] receipts = 0
commands_with test (ask ∷ asks) [] = 0
commands_with test (ask ∷ asks) (receipt ∷ receipts) = commands_with test asks receipts + one_if (is_command ask.signal && test receipt.outcome)

-- the commands that were put, those that were dropped, and those that suspended their process
abbrev pub put_commands : List Asked → List Receipt → ℕ
put_commands asks receipts = commands_with is_put asks receipts

abbrev pub dropped_commands : List Asked → List Receipt → ℕ
dropped_commands asks receipts = commands_with is_dropped asks receipts

abbrev pub suspended_commands : List Asked → List Receipt → ℕ
suspended_commands asks receipts = commands_with is_suspended asks receipts

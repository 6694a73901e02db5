-- The bound on a word, whatever its period.
use Rattle.std.proofs.Common.{ℕ, ◌+◌, ◌%◌, ◌<◌, arith}
use mathlib.Core.Logic.{dite}
use native.Mathlib.Decide.{ℕ_discrete}
use Rattle.port_words.specs.declared.busy.view.QueueLimits.{QueueLimits}
use Rattle.port_words.specs.busy.Queue.{period_of, bytes_of, IsWithin}

pub within : (limits : QueueLimits) (left : ℕ → ℕ) (word : ℕ) → IsWithin limits left word → bytes_of word < limits.high + left (period_of word)
within limits left word is = dite (ℕ_discrete (period_of word % 2) 0)
    (λ even. let below = is.even even in omega arith)
    (λ odd. is.odd (omega arith))

use Rattle.std.proofs.Common.{◌≡◌, ℕ, List, drop}
use Rattle.port_history.specs.Ties.{watched_by}
use Rattle.history_tables.specs.Tied.{Watches}
use Rattle.history_tables.proofs.watched.WatchedProcesses.note.Given as goal

-- the table has what the effects so far watch, and the rest watches the rest
abbrev pub invariant-loop-effect : goal.invariant-loop-effect
invariant-loop-effect l = record {
  watches : (watched : List ℕ) → Watches l.initial.self watched → (now : List ℕ) × (Watches l.self now × (watched_by (drop l.effect-index l.effects) now ≡ watched_by l.effects watched));
}

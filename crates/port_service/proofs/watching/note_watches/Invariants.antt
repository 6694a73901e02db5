use Rattle.std.proofs.Common.{◌≡◌, ℕ, List, length, drop}
use Rattle.port_history.specs.Ties.{watched_by}
use Rattle.port_service.specs.Serves.{Watches}
use Rattle.port_service.proofs.watching.note_watches.Given as goal

-- the flags tell what the effects so far watch, and the rest watches the rest
abbrev pub invariant-loop-effect : goal.invariant-loop-effect
invariant-loop-effect l = record {
  len : length l.watched.items ≡ length l.initial.watched.items;
  watches : (before : List ℕ) → Watches l.initial.watched.items before
      → (now : List ℕ) × (Watches l.watched.items now × (watched_by (drop l.effect-index l.effects) now ≡ watched_by l.effects before));
}

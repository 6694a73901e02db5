use Rattle.std.proofs.Common.{◌≡◌, drop}
use Rattle.port_history.specs.Marks.{busy_after}
use Rattle.history_tables.proofs.marks.busy_after.Given as goal

-- the rest of the effects makes of what is so far what all make of the beginning
abbrev pub invariant-loop-effect : goal.invariant-loop-effect
invariant-loop-effect l = busy_after l.now (drop l.effect-index l.effects) ≡ busy_after l.busy l.effects

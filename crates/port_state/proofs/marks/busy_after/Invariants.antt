use Rattle.std.proofs.Common.{◌≡◌, drop}
use Rattle.port_mail.specs.port_links.port_history.Marks.{busy_after}
use Rattle.port_state.proofs.marks.busy_after.Given as goal

-- the rest of the effects makes of what is so far what all make of the beginning
abbrev pub invariant-loop-effect : goal.invariant-loop-effect
invariant-loop-effect l = busy_after l.now (drop l.effect-index l.effects) ≡ busy_after l.busy l.effects

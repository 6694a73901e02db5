use Rattle.std.proofs.Common.{◌≡◌, drop}
use Rattle.port_mail.specs.port_links.port_history.Ties.{failure}
use Rattle.port_state.proofs.serving.fails.Given as goal

-- the effects so far hold no failure
abbrev pub invariant-loop-effect : goal.invariant-loop-effect
invariant-loop-effect l = failure (drop l.effect-index l.effects) ≡ failure l.effects

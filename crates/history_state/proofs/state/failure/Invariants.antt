use Rattle.std.proofs.Common.{◌≡◌, drop}
use Rattle.port_history.specs.Ties.{failure}
use Rattle.history_state.proofs.state.failure.Given as goal

-- the effects so far hold no failure
abbrev pub invariant-loop-effect : goal.invariant-loop-effect
invariant-loop-effect l = failure (drop l.effect-index l.effects) ≡ failure l.effects

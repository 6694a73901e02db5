use Rattle.std.proofs.Common.{◌≡◌, drop}
use Rattle.driver_model.specs.Same.{same_effects}
use Rattle.history_driver.proofs.comparing.same_effects.Given as goal

-- the rest tells whether all are the same
abbrev pub invariant-loop-place : goal.invariant-loop-place
invariant-loop-place l = same_effects l.effects l.others ≡ same_effects (drop l.place l.effects) (drop l.place l.others)

use Rattle.history_driver.proofs.Equal.{other-length}
use Rattle.history_driver.proofs.comparing.same_effects.Goals as goal

pub returns-then-effects-others : goal.returns-then-effects-others
returns-then-effects-others c = other-length _ _ c.if-effects-others.true

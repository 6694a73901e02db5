use Rattle.std.proofs.Common.{[], ◌∷◌, ap, arith, length-append}
use Rattle.std.specs.Prelude.{length}
use Rattle.driver_model.specs.Spawn.{sent}
use Rattle.spawn_driver.proofs.Recorded.{sent-more}
use Rattle.spawn_driver.proofs.unframing.send_all.Goals as goal

pub loop-message-preserved : goal.loop-message-preserved
loop-message-preserved c = (
  sent-more _ _ _ _ _ _ c.loop-message-test.true c.message-item.is c.loop-message.invariant.0 c.in_ok-send.ensures.ok,
  omega (arith, ap (λ k. length k.effects) c.in_ok-send.ensures.ok, length-append c.loop-message.ctx.effects (sent c.message-item.result ∷ []), c.loop-message.invariant.1),
)

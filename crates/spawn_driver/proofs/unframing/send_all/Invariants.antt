use Rattle.std.proofs.Common.{◌≡◌, ◌+◌, length, take}
use Rattle.std.specs.Prelude.{map}
use Rattle.driver_model.specs.Spawn.{sent}
use Rattle.spawn_driver.specs.Recorded.{with_effects}
use Rattle.spawn_driver.proofs.unframing.send_all.Given as goal

abbrev pub invariant-loop-message : goal.invariant-loop-message
invariant-loop-message l = (l.ctx ≡ with_effects l.fn.ctx (map sent (take l.message-index l.messages))) × (length l.ctx.effects ≡ length l.fn.ctx.effects + l.message-index)

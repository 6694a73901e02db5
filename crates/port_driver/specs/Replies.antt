-- The answer to a control or a call.
use Rattle.driver_model.specs.port_model.declared.effect.Effect.{Effect}
use Rattle.driver_model.specs.port_model.declared.effect.Effect.TheVariants.{Reply, ReplyBadarg}
use Rattle.port_driver.specs.declared.reply.ReplyTo.{ReplyTo}
use Rattle.port_driver.specs.declared.reply.ReplyTo.TheVariants.{Bytes, Badarg}

-- an answer, as an effect
abbrev pub reply_effect : ReplyTo → Effect
reply_effect (Bytes bytes) = Reply bytes
reply_effect Badarg = ReplyBadarg

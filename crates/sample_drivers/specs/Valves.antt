use Rattle.std.specs.Prelude.{◌≡◌, ◌==◌, ℕ, List, [], ◌∷◌, ◌++◌, Bool, true, false, if◌then◌else◌}
use Rattle.port_model.specs.declared.effect.Effect.{Effect}
use Rattle.port_model.specs.declared.effect.Effect.TheVariants.{Busy}
use Rattle.driver_model.specs.Calls.{Control}
use Rattle.driver_model.specs.Valve.{valve_effects}
use Rattle.port_driver.specs.declared.life.Life.{Life}
use Rattle.port_driver.specs.declared.reply.ReplyTo.{ReplyTo}
use Rattle.port_driver.specs.Context.{Context}
use Rattle.port_driver.specs.Replies.{reply_effect}

-- a valve: whether it is soft, and where it stands
pub record ValveView : Type 0 where
  pub is_soft : Bool
  pub life : Life

-- what an operation records before its answer
abbrev pub busy_effects : ℕ → List Effect
busy_effects op = if op == 1 then Busy true ∷ [] else (if op == 2 then Busy false ∷ [] else [])

-- an operation was recorded and answered; nothing else changed
pub record Sets (op : ℕ) (bytes : List ℕ) (old new : Context) (answer : ReplyTo) : Type 0 where
  pub context : new ≡ record old { effects = old.effects ++ busy_effects op }
  pub answered : busy_effects op ++ reply_effect answer ∷ [] ≡ valve_effects (Control op bytes)

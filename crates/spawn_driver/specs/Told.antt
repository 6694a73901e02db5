-- What the driver of a program does where the program's answers are told to it.
use Rattle.std.specs.Prelude.{◌≡◌, ℕ, List, [], ◌∷◌, ◌++◌, map, Bool, true, None}
use Rattle.io_vector.specs.declared.flag.Flag.TheVariants.{Plain}
use Rattle.packet_framing.specs.declared.mode.Mode.{Mode}
use Rattle.packet_framing.specs.declared.mode.Mode.TheVariants.{Stream}
use Rattle.packet_framing.specs.Lines.{message}
use Rattle.port_config.specs.declared.config.Config.{Config}
use Rattle.port_signal.specs.declared.outside.Outside.{Outside}
use Rattle.port_signal.specs.declared.outside.Outside.TheVariants as answer
use Rattle.port_model.specs.declared.effect.Effect.{Effect}
use Rattle.port_model.specs.declared.effect.Effect.TheVariants.{ReplyBadarg}
use Rattle.driver_model.specs.Calls.{Callback, DriverCall, call_of, cut_of, Program, Running, Spawn}
use Rattle.driver_model.specs.Spawn.{cut_into, is_none, spawn_answered}
use Rattle.port_driver.specs.Context.{Context, did}
use Rattle.port_driver.specs.Driven.{Stands, Follows}
use Rattle.spawn_driver.specs.declared.told.ToldFetch.{ToldFetch}
use Rattle.spawn_driver.specs.declared.told.ToldFetch.TheVariants.{Got, Again, Failed, End}
use Rattle.spawn_driver.specs.declared.unframing.Found.{Found}
use Rattle.spawn_driver.specs.declared.unframing.Found.TheVariants.{Messages}
use Rattle.spawn_driver.specs.Recorded.{with_answers}
use Rattle.spawn_driver.specs.Steps.{Receives, answers_to}

-- the driver went on by a call with these answers, whose row has these effects
pub record GoesOnBy (callback : Callback) (outside : List Outside) (row : List Effect) (old new : Program) (before after : Context) : Type 0 where
  pub added : List Effect
  pub effects : after.effects ≡ before.effects ++ added
  pub follows : (config : Config) (earlier : List DriverCall) → Stands Spawn config earlier (Running old) None before
      → Follows Spawn config earlier (call_of callback before.caller outside row) (Running new) None after added

-- whether the answers are what the callback asks for, and where they are, how the driver went on
pub record DoesAsTold (callback : Callback) (outside : List Outside) (row : List Effect) (old new : Program) (before after : Context) (answered : Bool) : Type 0 where
  pub caller : after.caller ≡ before.caller
  pub answers : (config : Config) (earlier : List DriverCall) → Stands Spawn config earlier (Running old) None before
      → answered ≡ spawn_answered config earlier outside callback
  pub did : answered ≡ true → GoesOnBy callback outside row old new before after

-- whether nothing was answered to a control or a call, which is refused then
pub record Refuses (outside : List Outside) (before after : Context) (answered : Bool) : Type 0 where
  pub answers : answered ≡ is_none outside
  pub caller : after.caller ≡ before.caller
  pub refused : answered ≡ true → after ≡ did before ReplyBadarg

-- the answers to a fetch
abbrev pub fetch_answers : ToldFetch → List Outside
fetch_answers (Got bytes) = answer.Got bytes.now ∷ []
fetch_answers Again = answer.Again ∷ []
fetch_answers Failed = answer.Failed ∷ []
fetch_answers (End status) = answer.End ∷ answers_to status

-- what was found in a stream's bytes is what these lengths cut them into
abbrev pub IsCutAs : Mode → List ℕ → List ℕ → Found → Type 0
IsCutAs Stream cut bytes (Messages messages) = messages.items ≡ map (message Plain) (cut_into cut bytes)
IsCutAs mode cut bytes found = Unit {0}

-- bytes were taken, and what they bring was sent, a stream as a row with these effects cuts it
pub record ReceivesAsTold (bytes : List ℕ) (row : List Effect) (old new : Program) (before after : Context) : Type 0 where
  pub receives : Receives bytes old new before (with_answers after (answer.Got bytes ∷ []))
  pub cut : IsCutAs old.config.mode (cut_of row) bytes receives.found

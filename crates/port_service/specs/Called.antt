-- What the callback of a signal left.
use Rattle.std.specs.Prelude.{◌≡◌, ◌≤◌, ℕ, List, [], ◌∷◌, ◌++◌, length, true, Option, Some, None}
use Rattle.port_model.specs.port_signal.declared.outside.Outside.{Outside}
use Rattle.port_model.specs.declared.effect.Effect.{Effect}
use Rattle.port_driver.specs.driver_model.Calls.{Callback, DriverCall, call_of, Own, Kind}
use Rattle.port_driver.specs.driver_model.Programs.{ToldProgram}
use Rattle.port_driver.specs.Context.{Context}
use Rattle.port_driver.specs.declared.life.Life.{Life}
use Rattle.port_driver.specs.declared.life.Life.TheVariants.{Started}
use Rattle.port_driver.specs.Driven.{Stands}
use Rattle.port_history.specs.Opening.{Opening}
use Rattle.port_history.specs.Service.{effects_after}
use Rattle.port_history.specs.State.{State}
use Rattle.port_history.specs.Laws.{is_answered_by}

-- a driver is started, and its context is one in which nothing was done
pub record IsUncalled (stage : Life) (context : Context) : Type 0 where
  pub started : stage ≡ Started
  pub outside : context.outside ≡ []
  pub effects : context.effects ≡ []

-- what the callback of a signal keeps, also where it finds no memory: the driver's kind, its stage, and who calls; its count of faults doesn't fall,
-- and it records little
pub record KeepsFew (old_kind new_kind : Kind) (old_faults new_faults : ℕ) (stage : Life) (old new : Context) : Type 0 where
  pub kind : new_kind ≡ old_kind
  pub faults : old_faults ≤ new_faults
  pub stage_is : stage ≡ Started
  pub caller : new.caller ≡ old.caller
  pub outside : length new.outside ≤ 262144
  pub effects : length new.effects ≤ 262144

-- the call of a callback, if there is one
abbrev pub made : Option Callback → ℕ → List Outside → List Effect → List DriverCall
made None caller outside effects = []
made (Some callback) caller outside effects = call_of callback caller outside effects ∷ []

-- after these calls, which are the last of all, the driver stands so, had these effects and got these answers
pub record Followed (port : Opening) (s : State) (calls : List DriverCall) (own : Own) (program : Option ToldProgram) (context : Context)
    (outside : List Outside) (effects : List Effect) : Type 0 where
  pub stands : Stands port.kind port.config (calls ++ s.calls) own program context
  pub effects_are : effects ≡ effects_after port s.calls calls
  pub answered : is_answered_by port s calls outside ≡ true

-- the driver got this callback, if there is one: what the context has more than before is what it did
pub record Called (kind : Kind) (callback : Option Callback) (old_own new_own : Own) (old_program new_program : Option ToldProgram) (old new : Context) : Type 0 where
  pub answers : List Outside
  pub added : List Effect
  pub outside : new.outside ≡ old.outside ++ answers
  pub effects : new.effects ≡ old.effects ++ added
  pub follows : (port : Opening) (s : State) → port.kind ≡ kind → Stands port.kind port.config s.calls old_own old_program old
      → Followed port s (made callback old.caller answers added) new_own new_program new answers added

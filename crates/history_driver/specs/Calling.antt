-- What the calls of a row leave.
use Rattle.std.specs.Prelude.{◌≡◌, ◌≤◌, ◌+◌, ℕ, List, [], ◌∷◌, ◌++◌, length, Bool, true, false, not, ◌&&◌, ◌||◌, Option, Some, None}
use Rattle.driver_model.specs.port_signal.Reasons.{is_kill}
use Rattle.driver_model.specs.port_signal.declared.outside.Outside.{Outside}
use Rattle.driver_model.specs.port_model.declared.effect.Effect.{Effect}
use Rattle.driver_model.specs.Calls as driver
use Rattle.driver_model.specs.Calls.{DriverCall, call_of, Kind, Own, Start}
use Rattle.driver_model.specs.Drivers.{effects_of}
use Rattle.driver_model.specs.Programs.{ToldProgram}
use Rattle.port_config.specs.declared.config.Config.{Config}
use Rattle.port_driver.specs.Context.{Context}
use Rattle.port_driver.specs.Driven.{Stands, Follows}
use Rattle.port_history.specs.Opening.{Opening, Taken}
use Rattle.port_history.specs.Service.{caller_of, effects_after, flush_calls}
use Rattle.port_history.specs.State.{State, signal_calls}
use Rattle.port_history.specs.Laws.{is_answered_by}
use Rattle.recorded_calls.specs.Told.{callback_of}
use Rattle.recorded_calls.specs.declared.call.Callback.{Callback}

-- a call adds at most 262,144 entries to each list
pub record HasRoom (old new : Context) : Type 0 where
  pub outside : length new.outside ≤ length old.outside + 262144
  pub effects : length new.effects ≤ length old.effects + 262144

-- what the callback of a driver did, with the reply that it answered
pub record Made (kind : Kind) (callback : driver.Callback) (old_own new_own : Own) (old_program new_program : Option ToldProgram) (old new : Context) : Type 0 where
  pub caller : new.caller ≡ old.caller
  pub answers : List Outside
  pub added : List Effect
  pub effects : new.effects ≡ old.effects ++ added
  pub follows : (config : Config) (earlier : List DriverCall) → Stands kind config earlier old_own old_program old
      → Follows kind config earlier (call_of callback old.caller answers added) new_own new_program new added

-- a driver began as a history does, with these two events
pub record Begins (kind : Kind) (config : Config) (caller read write : ℕ) (own : Own) (context : Context) : Type 0 where
  pub stands : Stands kind config (call_of (Start read write) caller [] [] ∷ []) own None context
  pub effects : context.effects ≡ effects_of kind config (call_of (Start read write) caller [] [] ∷ [])

-- the callback of a call, if there is one
abbrev pub told_callback : Option Callback → Option driver.Callback
told_callback None = None
told_callback (Some callback) = Some (callback_of callback)

-- the signal's call was made
pub record AfterSignal (port : Opening) (s : State) (t : Taken) (own : Own) (context : Context) : Type 0 where
  pub stands : Stands port.kind port.config (signal_calls s t ++ s.calls) own None context
  pub effects : context.effects ≡ effects_after port s.calls (signal_calls s t)

-- whether the outside's answers are those that the signal's call asks for, and where they are, what it left
pub record CalledAs (port : Opening) (s : State) (t : Taken) (own : Own) (context : Context) (answered : Bool) : Type 0 where
  pub caller : context.caller ≡ caller_of s.ties t.from
  pub answers : answered ≡ is_answered_by port s (signal_calls s t) t.outside
  pub called : answered ≡ true → AfterSignal port s t own context

-- a driver with bytes queued, or none, is flushed where its port closes for this reason, if it does
abbrev pub is_flushed : Option (List ℕ) → Bool → Bool
is_flushed (Some reason) drained = not (is_kill reason) && not drained
is_flushed None drained = false

-- it was flushed where it is
pub record Flushed (port : Opening) (reason : Option (List ℕ)) (calls : List DriverCall) (own : Own) (old new : Context) : Type 0 where
  pub stands : Stands port.kind port.config (flush_calls port old.caller reason calls ++ calls) own None new
  pub effects : new.effects ≡ old.effects ++ effects_after port calls (flush_calls port old.caller reason calls)

-- a driver with bytes queued, or none, is stopped where its port has closed for this reason, if it has
abbrev pub is_stopped_for : Option (List ℕ) → Bool → Bool
is_stopped_for (Some reason) drained = is_kill reason || drained
is_stopped_for None drained = false

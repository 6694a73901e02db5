-- What a driver does in a call whose answers are told to it.
use Rattle.std.specs.Prelude.{◌≡◌, ℕ, List, ◌++◌, Bool, true, None}
use Rattle.std.specs.List.{concat}
use Rattle.driver_model.specs.port_model.declared.effect.Effect.{Effect}
use Rattle.driver_model.specs.Calls as driver
use Rattle.driver_model.specs.Calls.{DriverCall, call_of, Kind, Own}
use Rattle.driver_model.specs.Drivers.{call_answered}
use Rattle.port_config.specs.declared.config.Config.{Config}
use Rattle.port_driver.specs.Context.{Context}
use Rattle.port_driver.specs.Driven.{Stands, Follows}
use Rattle.recorded_calls.specs.declared.call.Callback.{Callback}
use Rattle.recorded_calls.specs.declared.call.Callback.TheVariants.{Outputv, Control, Call, ReadyInput, ReadyOutput, ReadyAsync, ProcessExit, Flush}
use Rattle.recorded_calls.specs.declared.call.RecordedCall.{RecordedCall}

-- the callback as a list of calls has it
abbrev pub callback_of : Callback → driver.Callback
callback_of (Outputv payload) = driver.Outputv (concat payload.now)
callback_of (Control op bytes) = driver.Control op bytes.now
callback_of (Call op bytes) = driver.Call op bytes.now
callback_of (ReadyInput event) = driver.ReadyInput event
callback_of (ReadyOutput event) = driver.ReadyOutput event
callback_of (ReadyAsync number output) = driver.ReadyAsync number output.now
callback_of (ProcessExit process) = driver.ProcessExit process
callback_of Flush = driver.Flush

-- the call as a list of calls has it, by this caller
abbrev pub told_call : ℕ → RecordedCall → DriverCall
told_call caller call = call_of (callback_of call.callback) caller call.outside.now call.effects.now

-- these effects were recorded, and they are those of the call after whatever calls led to what the driver held
pub record Records (kind : Kind) (call : RecordedCall) (old_own new_own : Own) (old new : Context) : Type 0 where
  pub added : List Effect
  pub effects : new.effects ≡ old.effects ++ added
  pub follows : (config : Config) (earlier : List DriverCall) → Stands kind config earlier old_own None old
      → Follows kind config earlier (told_call old.caller call) new_own None new added

-- whether the outside answered just what the call asks for, and where it did, what the driver recorded
pub record DidAsTold (kind : Kind) (call : RecordedCall) (old_own new_own : Own) (old new : Context) (answered : Bool) : Type 0 where
  pub caller : new.caller ≡ old.caller
  pub answers : (config : Config) (earlier : List DriverCall) → Stands kind config earlier old_own None old
      → answered ≡ call_answered kind config earlier (told_call old.caller call)
  pub did : answered ≡ true → Records kind call old_own new_own old new

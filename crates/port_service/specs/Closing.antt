-- What flushing and stopping the driver of a port left.
use Rattle.std.specs.Prelude.{◌≡◌, ℕ, List, [], ◌++◌, Bool, false, not, ◌&&◌, ◌||◌, Option, Some, None}
use Rattle.port_model.specs.port_signal.Reasons.{is_kill}
use Rattle.port_driver.specs.driver_model.Calls.{DriverCall, Own, Kind}
use Rattle.port_driver.specs.driver_model.Programs.{ToldProgram}
use Rattle.port_driver.specs.Context.{Context}
use Rattle.port_driver.specs.Driven.{Stands}
use Rattle.port_history.specs.Opening.{Opening}
use Rattle.port_history.specs.Service.{effects_after, flush_calls, stop_calls}

-- the driver is stopped: the port closes for a reason and is killed or has nothing queued, or it was closing and has nothing queued
abbrev pub ends_driver : Option (List ℕ) → Bool → Bool → Bool
ends_driver (Some reason) closing drained = is_kill reason || drained
ends_driver None closing drained = closing && drained

-- the driver is flushed: the port closes for a reason, isn't killed, and has something queued
abbrev pub is_flushed : Option (List ℕ) → Bool → Bool
is_flushed (Some reason) drained = not (is_kill reason) && not drained
is_flushed None drained = false

-- the driver was flushed where its port closes for a reason and something is queued, unless the port is killed
pub record AfterFlush (port : Opening) (reason : Option (List ℕ)) (calls : List DriverCall) (own : Own) (program : Option ToldProgram) (old new : Context) : Type 0 where
  pub outside : new.outside ≡ old.outside
  pub effects : new.effects ≡ old.effects ++ effects_after port calls (flush_calls port old.caller reason calls)
  pub stands : Stands port.kind port.config (flush_calls port old.caller reason calls ++ calls) own program new

pub record Flushed (kind : Kind) (reason : Option (List ℕ)) (old_own new_own : Own) (old_program new_program : Option ToldProgram) (old new : Context) : Type 0 where
  pub follows : (port : Opening) (calls : List DriverCall) → port.kind ≡ kind → Stands port.kind port.config calls old_own old_program old
      → AfterFlush port reason calls new_own new_program old new

-- the driver was stopped, or it wasn't called
pub record Halted (kind : Kind) (stops : Bool) (old_own new_own : Own) (old_program new_program : Option ToldProgram) : Type 0 where
  pub follows : (port : Opening) (calls : List DriverCall) (context : Context) → port.kind ≡ kind → Stands port.kind port.config calls old_own old_program context
      → Stands port.kind port.config (stop_calls stops context.caller ++ calls) new_own new_program context
      × (effects_after port calls (stop_calls stops context.caller) ≡ [])

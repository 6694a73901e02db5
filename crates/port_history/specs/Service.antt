-- The calls that a driver gets for a task: that of its signal, and where the port closes `flush` and `stop`.
use Rattle.std.specs.Prelude.{ℕ, List, [], ◌∷◌, ◌++◌, Bool, true, false, ◌||◌, if◌then◌else◌, Option, Some, None}
use Rattle.std.specs.List.{concat}
use Rattle.driver_model.specs.port_signal.Links.{has}
use Rattle.driver_model.specs.port_signal.Reasons.{is_kill}
use Rattle.driver_model.specs.port_model.declared.event.Dir.TheVariants.{Read, Write}
use Rattle.driver_model.specs.port_model.declared.signal.Sender.{Sender}
use Rattle.driver_model.specs.port_model.declared.signal.Sender.TheVariants.{Process}
use Rattle.driver_model.specs.port_model.declared.signal.Signal.{Signal}
use Rattle.driver_model.specs.port_model.declared.signal.Signal.TheVariants.{Command, OwnerCommand, Control, Call, Ready, AsyncDone, Gone}
use Rattle.driver_model.specs.port_model.declared.effect.Effect.{Effect}
use Rattle.driver_model.specs.Calls as driver
use Rattle.driver_model.specs.Calls.{Callback, DriverCall, call_of, is_empty}
use Rattle.driver_model.specs.Drivers.{queue_of, effects_of}
use Rattle.port_history.specs.Opening.{Opening, Taken, is_process}
use Rattle.port_history.specs.Ties.{Ties}

-- the callback of a watched process's end
abbrev pub exit_callback : List ℕ → Sender → Option Callback
exit_callback watched (Process process) = if has process watched then Some (driver.ProcessExit process) else None
exit_callback watched from = None

-- the callback of a handled signal, if it has one
abbrev pub callback_of : Ties → List ℕ → Sender → Signal → Option Callback
callback_of ties watched from (Command payload) = Some (driver.Outputv (concat payload))
callback_of ties watched from (OwnerCommand payload) = if is_process ties.owner from then Some (driver.Outputv (concat payload)) else None
callback_of ties watched from (Control op bytes) = Some (driver.Control op bytes)
callback_of ties watched from (Call op bytes) = Some (driver.Call op bytes)
callback_of ties watched from (Ready event Read) = Some (driver.ReadyInput event)
callback_of ties watched from (Ready event Write) = Some (driver.ReadyOutput event)
callback_of ties watched from (AsyncDone number output) = Some (driver.ReadyAsync number output)
callback_of ties watched from (Gone reason) = exit_callback watched from
callback_of ties watched from signal = None

-- the process whose signal is handled, and else the owner
abbrev pub caller_of : Ties → Sender → ℕ
caller_of ties (Process process) = process
caller_of ties from = ties.owner

abbrev pub calls_by : Option Callback → ℕ → Taken → List DriverCall
calls_by None caller t = []
calls_by (Some callback) caller t = call_of callback caller t.outside t.effects ∷ []

-- nothing is queued after the calls
abbrev pub is_drained : Opening → List DriverCall → Bool
is_drained port calls = is_empty (queue_of port.kind port.config calls)

-- `flush`, where a row closes the port for this reason and bytes are queued, unless it is killed
abbrev pub flush_calls : Opening → ℕ → Option (List ℕ) → List DriverCall → List DriverCall
flush_calls port caller None earlier = []
flush_calls port caller (Some reason) earlier = if is_kill reason || is_drained port earlier then [] else call_of driver.Flush caller [] [] ∷ []

-- the driver of a port that closed for this reason is stopped: nothing is queued any more, or the port was killed
abbrev pub must_stop : Opening → Option (List ℕ) → List DriverCall → Bool
must_stop port None calls = false
must_stop port (Some reason) calls = is_kill reason || is_drained port calls

abbrev pub stop_calls : Bool → ℕ → List DriverCall
stop_calls true caller = call_of driver.Stop caller [] [] ∷ []
stop_calls false caller = []

-- the effects of some calls after earlier ones, in their order
abbrev pub effects_after : Opening → List DriverCall → List DriverCall → List Effect
effects_after port earlier [] = []
effects_after port earlier (call ∷ before) =
    effects_after port earlier before ++ effects_of port.kind port.config (call ∷ before ++ earlier)

-- the first of two reasons that is there
abbrev pub first_reason : Option (List ℕ) → Option (List ℕ) → Option (List ℕ)
first_reason None other = other
first_reason (Some reason) other = Some reason

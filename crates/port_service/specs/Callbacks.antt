-- The callback of a signal, by what a port knows of its sender.
use Rattle.std.specs.Prelude.{ℕ, List, Bool, false, Option, Some, None, if◌then◌else◌, slice_index_or}
use Rattle.std.specs.List.{concat}
use Rattle.port_model.specs.port_signal.Links.{has}
use Rattle.port_model.specs.declared.event.Dir.TheVariants.{Read, Write}
use Rattle.port_model.specs.declared.signal.Sender.{Sender}
use Rattle.port_model.specs.declared.signal.Sender.TheVariants.{Process}
use Rattle.port_model.specs.declared.signal.Signal.{Signal}
use Rattle.port_model.specs.declared.signal.Signal.TheVariants.{Command, OwnerCommand, Control, Call, Ready, AsyncDone, Gone}
use Rattle.port_driver.specs.driver_model.Calls as driver
use Rattle.port_driver.specs.driver_model.Calls.{Callback}

-- the callback of a signal: whether the owner sent it, whether the driver is told of the sender's end, and the sender's number
abbrev pub callback_by : Bool → Bool → ℕ → Signal → Option Callback
callback_by owns watched process (Command payload) = Some (driver.Outputv (concat payload))
callback_by owns watched process (OwnerCommand payload) = if owns then Some (driver.Outputv (concat payload)) else None
callback_by owns watched process (Control op bytes) = Some (driver.Control op bytes)
callback_by owns watched process (Call op bytes) = Some (driver.Call op bytes)
callback_by owns watched process (Ready event Read) = Some (driver.ReadyInput event)
callback_by owns watched process (Ready event Write) = Some (driver.ReadyOutput event)
callback_by owns watched process (AsyncDone number output) = Some (driver.ReadyAsync number output)
callback_by owns watched process (Gone reason) = if watched then Some (driver.ProcessExit process) else None
callback_by owns watched process signal = None

-- the driver is told of this sender's end, by a list of processes and by flags
abbrev pub is_told_of : List ℕ → Sender → Bool
is_told_of watched (Process process) = has process watched
is_told_of watched from = false

abbrev pub is_flagged : List Bool → Sender → Bool
is_flagged flags (Process process) = slice_index_or flags process false
is_flagged flags from = false

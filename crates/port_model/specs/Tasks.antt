-- A signal as it lies in a port's queue.
use Rattle.std.specs.Prelude.{◌≡◌, Bool, true, false, ◌&&◌, ◌||◌}
use Rattle.port_model.specs.declared.signal.Signal.{Signal}
use Rattle.port_model.specs.Signals.{is_command}

pub record TaskView : Type 0 where
  pub signal : Signal
  pub suspends : Bool
  pub forced : Bool

-- it doesn't both suspend its sender and be forced, and is neither unless it is a command
pub record IsTask (task : TaskView) : Type 0 where
  pub alone : (task.suspends && task.forced) ≡ false
  pub command : (task.suspends || task.forced) ≡ true → is_command task.signal ≡ true

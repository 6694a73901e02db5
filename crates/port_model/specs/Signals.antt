-- What a signal is.
use Rattle.std.specs.Prelude.{ℕ, length, Bool, true, false}
use Rattle.std.specs.List.{concat}
use Rattle.port_model.specs.declared.signal.Signal.{Signal}
use Rattle.port_model.specs.declared.signal.Signal.TheVariants.{Command, OwnerCommand, Control, Call}

-- the signal is a command, in either form, which waits while the port is busy
abbrev pub is_command : Signal → Bool
is_command (Command payload) = true
is_command (OwnerCommand payload) = true
is_command signal = false

-- how many bytes of data the signal carries to a driver
abbrev pub data_size : Signal → ℕ
data_size (Command payload) = length (concat payload)
data_size (OwnerCommand payload) = length (concat payload)
data_size (Control op bytes) = length bytes
data_size (Call op bytes) = length bytes
data_size signal = 0

-- The calls by which a process sends signals to its ports.
use Rattle.std.specs.Prelude.{ℕ, Bool, true, false, ◌&&◌, nat_lt}
use Rattle.port_words.specs.declared.busy.view.AddHow.{AddHow}
use Rattle.port_words.specs.declared.busy.view.AddHow.TheVariants as add
use Rattle.port_history.specs.port_model.declared.signal.Signal.{Signal}
use Rattle.port_history.specs.port_model.declared.signal.Signal.TheVariants.{Gone}
use Rattle.port_history.specs.port_model.Signals.{data_size, is_command}
use Rattle.port_history.specs.port_model.Tasks.{TaskView}
use Rattle.process_receipts.specs.declared.how.How.{How}
use Rattle.process_receipts.specs.declared.how.How.TheVariants.{Plain, Owner, NoSuspend, Force, ForceNoSuspend}
use Rattle.process_receipts.specs.declared.receipt.Outcome.{Outcome}
use Rattle.process_receipts.specs.declared.receipt.Outcome.TheVariants.{Suspended}

-- a call: the line that makes it, the port, the signal, and how it is sent
pub record Asked : Type 0 where
  pub line : ℕ
  pub port : ℕ
  pub signal : Signal
  pub how : How

abbrev pub asked : ℕ → ℕ → Signal → How → Asked
asked line port signal how = record { line = line; port = port; signal = signal; how = how }

-- a busy port takes the command too
abbrev pub is_forcing : How → Bool
is_forcing Force = true
is_forcing ForceNoSuspend = true
is_forcing how = false

-- a busy port gets nothing
abbrev pub is_dropping : How → Bool
is_dropping NoSuspend = true
is_dropping how = false

-- a busy port suspends the sender of a command
abbrev pub is_stopping : How → Bool
is_stopping Plain = true
is_stopping Owner = true
is_stopping how = false

-- how the bytes of a command are added
abbrev pub add_how : How → AddHow
add_how Plain = add.Plain
add_how Owner = add.Plain
add_how NoSuspend = add.NoSuspend
add_how Force = add.Forced
add_how ForceNoSuspend = add.Forced

-- the call tells a port that its sender has ended
abbrev pub is_gone : Signal → Bool
is_gone (Gone reason) = true
is_gone signal = false

-- the signal has more data than a port takes
abbrev pub is_long : Signal → Bool
is_long signal = nat_lt 262143 (data_size signal)

-- the call may suspend its sender
abbrev pub may_stop : Asked → Bool
may_stop ask = is_command ask.signal && is_stopping ask.how

abbrev pub is_suspended : Outcome → Bool
is_suspended Suspended = true
is_suspended outcome = false

-- the task that a call with this outcome puts
abbrev pub task_of : Asked → Outcome → TaskView
task_of ask outcome = record { signal = ask.signal; suspends = is_suspended outcome; forced = is_forcing ask.how }

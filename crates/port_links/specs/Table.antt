-- What contracts see of the table of a port's ties, and what is said of the signals that it is told of.
use Rattle.std.specs.Prelude.{ℕ, ◌<◌, Bool, true, false}
use Rattle.port_history.specs.port_model.declared.signal.Sender.{Sender}
use Rattle.port_history.specs.port_model.declared.signal.Sender.TheVariants.{Process}
use Rattle.port_history.specs.port_model.declared.signal.Signal.{Signal}
use Rattle.port_history.specs.port_model.declared.signal.Signal.TheVariants.{Monitor}
use Rattle.port_history.specs.Ties.{Ties}

pub record LinkTable : Type 0 where
  pub ties : Ties
  -- how many processes there are: each has a number below it
  pub processes : ℕ

-- a sender that is a process is one of this many
abbrev pub IsAmong : ℕ → Sender → Type 0
IsAmong processes (Process process) = process < processes
IsAmong processes from = Unit {0}

-- the signal asks for a monitor
abbrev pub is_monitor : Signal → Bool
is_monitor (Monitor number) = true
is_monitor signal = false

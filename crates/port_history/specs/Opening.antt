-- What a history begins with, and what a row tells of a task.
use Rattle.std.specs.Prelude.{ℕ, List, [], ◌==◌, Bool, true, false}
use Rattle.driver_model.specs.port_config.declared.config.Config.{Config}
use Rattle.driver_model.specs.port_signal.declared.outside.Outside.{Outside}
use Rattle.driver_model.specs.port_model.declared.signal.Sender.{Sender}
use Rattle.driver_model.specs.port_model.declared.signal.Sender.TheVariants.{Process, Poller, Worker, Timer}
use Rattle.driver_model.specs.port_model.declared.effect.Effect.{Effect}
use Rattle.driver_model.specs.port_model.Tasks.{TaskView}
use Rattle.driver_model.specs.Calls.{Kind}

-- what was fixed when a port was opened: its number, how many processes there are, the kind of its driver, its config, its opener, who is
-- the first owner, and the two events of its program, 0 and 0 without one
pub record Opening : Type 0 where
  pub number : ℕ
  pub processes : ℕ
  pub kind : Kind
  pub config : Config
  pub owner : ℕ
  pub read : ℕ
  pub write : ℕ

-- a task that has a row: whether it was late, and what the outside answered and the driver did where it wasn't
pub record Taken : Type 0 where
  pub from : Sender
  pub seq : ℕ
  pub task : TaskView
  pub late : Bool
  pub outside : List Outside
  pub effects : List Effect

-- a handled task
abbrev pub taken_of : Sender → ℕ → TaskView → List Outside → List Effect → Taken
taken_of from seq task outside effects = record { from = from; seq = seq; task = task; late = false; outside = outside; effects = effects }

-- a late one
abbrev pub late_of : Sender → ℕ → TaskView → Taken
late_of from seq task = record { from = from; seq = seq; task = task; late = true; outside = []; effects = [] }

abbrev pub same_sender : Sender → Sender → Bool
same_sender (Process process) (Process other) = process == other
same_sender Poller Poller = true
same_sender (Worker worker) (Worker other) = worker == other
same_sender Timer Timer = true
same_sender from other = false

-- the sender is this process
abbrev pub is_process : ℕ → Sender → Bool
is_process process (Process other) = other == process
is_process process from = false

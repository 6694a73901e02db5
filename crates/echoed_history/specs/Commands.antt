-- Commands, closes and the ends of processes, as tasks of a port that sends each command back.
use Rattle.std.specs.Prelude.{◌≡◌, ℕ, List, [], ◌++◌, Bool, true, false}
use Rattle.std.specs.List.{AllByRecursion, concat}
use Rattle.driver_model.specs.Calls.{Kind, Echo, Valve}
use Rattle.port_body.specs.LanePort.{rows_from}
use Rattle.port_history.specs.port_model.declared.row.Row.{Row}
use Rattle.port_history.specs.port_model.declared.signal.Sender.TheVariants.{Process}
use Rattle.port_history.specs.port_model.declared.signal.Signal.{Signal}
use Rattle.port_history.specs.port_model.declared.signal.Signal.TheVariants.{Command, Close, OwnerClose, Gone}
use Rattle.port_history.specs.port_model.Tasks.{TaskView}
use Rattle.process_receipts.specs.Asks.{is_gone}

-- a driver of this kind sends the data of each command back
abbrev pub echoes : Kind → Bool
echoes Echo = true
echoes (Valve soft) = true
echoes kind = false

-- the signal is a command that isn't in the owner's form
abbrev pub is_plain_command : Signal → Bool
is_plain_command (Command payload) = true
is_plain_command signal = false

-- the data of a command; another signal brings none back
abbrev pub command_data : Signal → List ℕ
command_data (Command payload) = concat payload
command_data signal = []

-- the same of a task
abbrev pub task_data : TaskView → List ℕ
task_data task = command_data task.signal

-- each of the tasks is a command
abbrev pub AreCommands : List TaskView → Type 0
AreCommands tasks = AllByRecursion (λ (t : TaskView). is_plain_command t.signal ≡ true) tasks

-- the signal is a close, in either form
abbrev pub is_close : Signal → Bool
is_close Close = true
is_close OwnerClose = true
is_close signal = false

-- the signal closes the port where it comes from the owner: it is a close, or tells of its end
abbrev pub is_closing : Signal → Bool
is_closing Close = true
is_closing OwnerClose = true
is_closing (Gone reason) = true
is_closing signal = false

-- each of the tasks does so
abbrev pub AreClosings : List TaskView → Type 0
AreClosings tasks = AllByRecursion (λ (t : TaskView). is_closing t.signal ≡ true) tasks

-- each of the tasks tells of the end of its sender
abbrev pub AreEnds : List TaskView → Type 0
AreEnds tasks = AllByRecursion (λ (t : TaskView). is_gone t.signal ≡ true) tasks

-- the other processes send their ends alone
abbrev pub OthersEnd : ℕ → List Row → Type 0
OthersEnd owner history = (p : ℕ) → (p ≡ owner → ⊥) → AreEnds (rows_from (Process p) history)

-- the owner's tasks are these commands, and then these, of which each closes the port where no earlier one did
pub record ClosesBehind (owner : ℕ) (commands closings : List TaskView) (history : List Row) : Type 0 where
  pub tasks : rows_from (Process owner) history ≡ commands ++ closings
  pub commands_are : AreCommands commands
  pub closings_are : AreClosings closings

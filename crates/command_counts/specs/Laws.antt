-- Laws of the commands of a history.
use Rattle.std.specs.Prelude.{◌≡◌, ◌≢◌, ℕ, ◌+◌, ◌≤◌, List}
use Rattle.driver_model.specs.Calls.{Echo}
use Rattle.port_model.specs.declared.row.Row.{Row}
use Rattle.port_history.specs.Counts.{handled_bytes, handled_commands, late_commands}
use Rattle.port_history.specs.Lawful.{Lawful, IsFinished}
use Rattle.port_history.specs.Mail.{mails}
use Rattle.port_history.specs.Opening.{Opening}
use Rattle.command_counts.specs.Rows.{AreQuiet, command_size, messages_of, one_command, task_sum}

-- No more commands called the driver or came late than have a row; and where all that have a row called the driver, they have as many bytes
pub record IsCounted (port : Opening) (history : List Row) : Type 0 where
  pub few : handled_commands port history + late_commands history ≤ task_sum one_command history
  pub same : handled_commands port history ≡ task_sum one_command history → handled_bytes port history ≡ task_sum command_size history

abbrev pub EachCommandIsCounted : Type 0
EachCommandIsCounted = (port : Opening) (history : List Row) → IsCounted port history

-- a process has no more messages of the port than commands called its driver, and none of another port
pub record SendsOneEach (port : Opening) (process : ℕ) (history : List Row) : Type 0 where
  pub own : messages_of port.number (mails port process history) ≤ handled_commands port history
  pub other : (number : ℕ) → number ≢ port.number → messages_of number (mails port process history) ≡ 0

abbrev pub EchoSendsOneMessageEach : Type 0
EchoSendsOneMessageEach = (port : Opening) (process : ℕ) (history : List Row) → port.kind ≡ Echo → Lawful port history → SendsOneEach port process history

abbrev pub QuietPortsStayOpen : Type 0
QuietPortsStayOpen = (port : Opening) (history : List Row) → port.kind ≡ Echo → Lawful port history → AreQuiet port.owner history → IsFinished port history → ⊥

-- What the tasks of a history come to, and which of them leave the port as it is.
use Rattle.std.specs.Prelude.{◌≡◌, ℕ, ◌+◌, ◌==◌, List, [], ◌∷◌, length, filter, Bool, true, false, if◌then◌else◌}
use Rattle.port_model.specs.port_signal.Reasons.{is_normal}
use Rattle.port_model.specs.declared.mail.Mail.{Mail}
use Rattle.port_model.specs.declared.mail.Mail.TheVariants.{Message}
use Rattle.port_model.specs.declared.row.Row.{Row}
use Rattle.port_model.specs.declared.row.Row.TheVariants.{Handled, Late}
use Rattle.port_model.specs.declared.signal.Sender.{Sender}
use Rattle.port_model.specs.declared.signal.Sender.TheVariants.{Process}
use Rattle.port_model.specs.declared.signal.Signal.{Signal}
use Rattle.port_model.specs.declared.signal.Signal.TheVariants.{Command, Gone}
use Rattle.port_model.specs.Signals.{data_size, is_command}

-- the sum of a number of each task that has a row, handled or late
abbrev pub task_sum : (Signal → ℕ) → List Row → ℕ
task_sum f [] = 0
task_sum f (Handled from seq task outside effects ∷ older) = task_sum f older + f task.signal
task_sum f (Late from seq task ∷ older) = task_sum f older + f task.signal
task_sum f (row ∷ older) = task_sum f older

-- 1 of a command in either form, and how many bytes it has
abbrev pub one_command : Signal → ℕ
one_command signal = if is_command signal then 1 else 0

abbrev pub command_size : Signal → ℕ
command_size signal = if is_command signal then data_size signal else 0

-- how many data messages of this port are among the mail
abbrev pub is_message_of : ℕ → Mail → Bool
is_message_of port (Message from flag bytes) = from == port
is_message_of port mail = false

abbrev pub messages_of : ℕ → List Mail → ℕ
messages_of port mails = length (filter (is_message_of port) mails)

-- The signal closes no port of this owner, and leaves the owner: it is a command, or tells the end of another process for the reason `normal`. The poller and workers send none that closes a port
abbrev pub IsQuiet : ℕ → Sender → Signal → Type 0
IsQuiet owner (Process process) (Command payload) = Unit {0}
IsQuiet owner (Process process) (Gone reason) = ((process == owner) ≡ false) × (is_normal reason ≡ true)
IsQuiet owner (Process process) signal = ⊥
IsQuiet owner from signal = Unit {0}

-- so is each handled signal
abbrev pub AreQuiet : ℕ → List Row → Type 0
AreQuiet owner [] = Unit {0}
AreQuiet owner (Handled from seq task outside effects ∷ older) = IsQuiet owner from task.signal × AreQuiet owner older
AreQuiet owner (row ∷ older) = AreQuiet owner older

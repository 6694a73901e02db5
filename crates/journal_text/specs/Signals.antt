-- CommandFlags the senders and the signals of a row are written, among so many processes.
use Rattle.std.specs.Prelude.{ℕ, ◌^◌, List, [], ◌∷◌, Bool, true, false, not, ◌&&◌, ◌||◌, nat_lt, codes}
use Rattle.std.specs.List.{concat}
use Rattle.std.specs.Fmt.{decimal}
use Rattle.port_model.specs.declared.event.Dir.TheVariants.{Read, Write}
use Rattle.port_model.specs.declared.signal.Sender.{Sender}
use Rattle.port_model.specs.declared.signal.Sender.TheVariants.{Process, Poller, Worker, Timer}
use Rattle.port_model.specs.declared.signal.Signal.{Signal}
use Rattle.port_model.specs.declared.signal.Signal.TheVariants.{Command, OwnerCommand, Control, Call, Close, OwnerClose, Connect, OwnerConnect, Link, Unlink, Monitor, Demonitor, Exit, Gone, Ready, Dropped, AsyncDone}
use Rattle.port_model.specs.Signals.{is_command}
use Rattle.port_model.specs.Tasks.{TaskView}
use Rattle.journal_text.specs.declared.how.CommandFlags.{CommandFlags}
use Rattle.journal_text.specs.declared.how.CommandFlags.TheVariants.{Plain, Suspends, Forced}
use Rattle.journal_text.specs.Words.{spaced, bytes_text, are_bytes, is_32, is_64, is_name}

-- `p` and a process, `e` for the poller, `w` and a worker, `t` for the timers
abbrev pub sender_text : Sender → List ℕ
sender_text (Process process) = 112 ∷ decimal process
sender_text Poller = 101 ∷ []
sender_text (Worker worker) = 119 ∷ decimal worker
sender_text Timer = 116 ∷ []

abbrev pub is_sender : ℕ → Sender → Bool
is_sender names (Process process) = nat_lt process names
is_sender names Poller = true
is_sender names (Worker worker) = is_32 worker
is_sender names Timer = true

-- `s` where the task suspends its sender, `f` where it is forced
abbrev pub how_text : CommandFlags → List ℕ
how_text Plain = 45 ∷ []
how_text Suspends = 115 ∷ []
how_text Forced = 102 ∷ []

abbrev pub how_of : Bool → Bool → CommandFlags
how_of true forced = Suspends
how_of false true = Forced
how_of false false = Plain

abbrev pub task_of : CommandFlags → Signal → TaskView
task_of Plain signal = record { signal = signal; suspends = false; forced = false }
task_of Suspends signal = record { signal = signal; suspends = true; forced = false }
task_of Forced signal = record { signal = signal; suspends = false; forced = true }

abbrev pub signal_text : CommandFlags → Signal → List ℕ
signal_text how (Command payload) = spaced (codes "command" ∷ how_text how ∷ bytes_text (concat payload) ∷ [])
signal_text how (OwnerCommand payload) = spaced (codes "send" ∷ how_text how ∷ bytes_text (concat payload) ∷ [])
signal_text how (Control op bytes) = spaced (codes "control" ∷ decimal op ∷ bytes_text bytes ∷ [])
signal_text how (Call op bytes) = spaced (codes "call" ∷ decimal op ∷ bytes_text bytes ∷ [])
signal_text how Close = codes "close"
signal_text how OwnerClose = codes "ownerclose"
signal_text how (Connect process) = spaced (codes "connect" ∷ decimal process ∷ [])
signal_text how (OwnerConnect process) = spaced (codes "ownerconnect" ∷ decimal process ∷ [])
signal_text how Link = codes "link"
signal_text how Unlink = codes "unlink"
signal_text how (Monitor number) = spaced (codes "monitor" ∷ decimal number ∷ [])
signal_text how (Demonitor number) = spaced (codes "demonitor" ∷ decimal number ∷ [])
signal_text how (Exit reason) = spaced (codes "exit" ∷ reason ∷ [])
signal_text how (Gone reason) = spaced (codes "gone" ∷ reason ∷ [])
signal_text how (Ready event Read) = spaced (codes "input" ∷ decimal event ∷ [])
signal_text how (Ready event Write) = spaced (codes "output" ∷ decimal event ∷ [])
signal_text how (Dropped event) = spaced (codes "dropped" ∷ decimal event ∷ [])
signal_text how (AsyncDone number output) = spaced (codes "done" ∷ decimal number ∷ bytes_text output ∷ [])

-- a vector of one segment, or of none where it has no bytes
abbrev pub is_payload : List (List ℕ) → Bool
is_payload [] = true
is_payload ((byte ∷ bytes) ∷ []) = are_bytes (byte ∷ bytes)
is_payload payload = false

abbrev pub is_signal : ℕ → Signal → Bool
is_signal names (Command payload) = is_payload payload
is_signal names (OwnerCommand payload) = is_payload payload
is_signal names (Control op bytes) = is_32 op && are_bytes bytes
is_signal names (Call op bytes) = is_32 op && are_bytes bytes
is_signal names Close = true
is_signal names OwnerClose = true
is_signal names (Connect process) = nat_lt process names
is_signal names (OwnerConnect process) = nat_lt process names
is_signal names Link = true
is_signal names Unlink = true
is_signal names (Monitor number) = is_64 number
is_signal names (Demonitor number) = is_64 number
is_signal names (Exit reason) = is_name reason
is_signal names (Gone reason) = is_name reason
is_signal names (Ready event dir) = is_32 event
is_signal names (Dropped event) = is_32 event
is_signal names (AsyncDone number output) = is_64 number && are_bytes output

-- the word of a task's flags stands in a command, in either form, and nowhere else
abbrev pub task_text : TaskView → List ℕ
task_text task = signal_text (how_of task.suspends task.forced) task.signal

-- the flags are those of a task
abbrev pub are_flags : Bool → Bool → Bool → Bool
are_flags command suspends forced = not (suspends && forced) && (command || not (suspends || forced))

abbrev pub is_task : ℕ → TaskView → Bool
is_task names task = are_flags (is_command task.signal) task.suspends task.forced && is_signal names task.signal

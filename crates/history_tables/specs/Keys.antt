-- The keys of senders and of tasks, and their order.
use Rattle.std.specs.Prelude.{ℕ}
use Rattle.std.specs.declared.cmp.Ordering.{Ordering}
use Rattle.port_model.specs.declared.signal.Sender.{Sender}
use Rattle.port_model.specs.declared.signal.Sender.TheVariants.{Process, Poller, Worker, Timer}
use Rattle.history_tables.specs.declared.key.SenderKey.{SenderKey}
use Rattle.history_tables.specs.declared.key.SenderKey.TheVariants as key
use Rattle.history_tables.specs.declared.key.TaskKey.{TaskKey}
use Rattle.history_tables.specs.contracts.key.SenderKeyOrd.TheImpl as sender_ord
use Rattle.history_tables.specs.contracts.key.TaskKeyOrd.TheImpl as task_ord

abbrev pub key_of : Sender → SenderKey
key_of (Process process) = key.Process process
key_of Poller = key.Poller
key_of (Worker worker) = key.Worker worker
key_of Timer = key.Timer

abbrev pub task_key : Sender → ℕ → TaskKey
task_key from seq = record { from = key_of from; seq = seq }

-- how the program compares them
abbrev pub key_cmp : SenderKey → SenderKey → Ordering
key_cmp = sender_ord.ghosts.cmp

abbrev pub task_cmp : TaskKey → TaskKey → Ordering
task_cmp = task_ord.ghosts.cmp

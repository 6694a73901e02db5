-- The rows of a port whose tasks hand it to nobody.
use Rattle.std.proofs.Common.{◌≡◌, ◌<◌, ℕ, List, [], ◌∷◌, ◌++◌, Bool, true, false, ◌&&◌, eqb, cond, refl}
use Rattle.std.specs.List.{AllByRecursion}
use Rattle.std.proofs.lemmas.Bool.{and_parts}
use Rattle.port_model.specs.declared.signal.Sender.{Sender}
use Rattle.port_model.specs.declared.signal.Sender.TheVariants.{Process, Poller, Worker, Timer}
use Rattle.port_model.specs.declared.signal.Signal.{Signal}
use Rattle.port_model.specs.declared.signal.Signal.TheVariants.{Connect, OwnerConnect}
use Rattle.port_model.specs.declared.row.Row.{Row}
use Rattle.port_model.specs.declared.row.Row.TheVariants.{Handled, Late, Listed, Resumed, Mark}
use Rattle.port_model.specs.Tasks.{TaskView}
use Rattle.port_history.specs.Laws.{count_of, may_send, poller_sends, worker_sends}
use Rattle.port_history.specs.Lawful.{Lawful}
use Rattle.port_history.specs.Opening.{Opening}
use Rattle.port_history.specs.State.{state}
use Rattle.run_output.specs.script_run.run_opening.port_body.LanePort.{rows_from, task_from}
use Rattle.run_output.specs.script_run.Ran.{IsAmong, IsFrom}
use Rattle.unframed_output.specs.Laws.{is_connect, KeepsOwner}
use Rattle.unframed_output.proofs.Events.{eqb-same}
use Rattle.run_laws.proofs.saved.Asks.{TaskKeeps}
use Rattle.run_laws.proofs.Lists.{all-front, all-back}

polled : (signal : Signal) → poller_sends signal ≡ true → is_connect signal ≡ false
polled (Connect process) sends = absurd (cc)
polled (OwnerConnect process) sends = absurd (cc)
polled signal sends = refl

worked : (signal : Signal) → worker_sends signal ≡ true → is_connect signal ≡ false
worked (Connect process) sends = absurd (cc)
worked (OwnerConnect process) sends = absurd (cc)
worked signal sends = refl

own-task : (process : ℕ) (task : TaskView) → AllByRecursion TaskKeeps (task_from (Process process) (Process process) task) → is_connect task.signal ≡ false
own-task process task all = at (eqb process process) (eqb-same process) all where
  at : (b : Bool) → b ≡ true → AllByRecursion TaskKeeps (cond b (task ∷ []) []) → is_connect task.signal ≡ false
  at true is all = all.0
  at false is all = absurd (cc)

-- the task of a handled row
row-keeps : (processes workers : ℕ) (port : Opening) (older : List Row) (from : Sender) (seq : ℕ) (task : TaskView) → IsAmong processes workers from
    → (eqb seq (count_of from (state port older).senders) && may_send from task.signal) ≡ true
    → ((s : ℕ) → s < processes → AllByRecursion TaskKeeps (rows_from (Process s) older ++ task_from (Process s) from task)) → is_connect task.signal ≡ false
row-keeps processes workers port older (Process process) seq task within next tasks =
    own-task process task (all-back TaskKeeps (rows_from (Process process) older) (task_from (Process process) (Process process) task) (tasks process within))
row-keeps processes workers port older Poller seq task within next tasks = polled task.signal (and_parts (eqb seq (count_of Poller (state port older).senders)) (poller_sends task.signal) next).1
row-keeps processes workers port older (Worker worker) seq task within next tasks =
    worked task.signal (and_parts (eqb seq (count_of (Worker worker) (state port older).senders)) (worker_sends task.signal) next).1
row-keeps processes workers port older Timer seq task within next tasks = absurd within

-- where the tasks of no process hand it over, the opener stays the owner
pub keeps-owner : (processes workers : ℕ) (port : Opening) (history : List Row) → Lawful port history → AllByRecursion (IsFrom processes workers) history
    → ((s : ℕ) → s < processes → AllByRecursion TaskKeeps (rows_from (Process s) history)) → KeepsOwner history
keeps-owner processes workers port [] lawful senders tasks = tt
keeps-owner processes workers port (Handled from seq task outside effects ∷ older) lawful senders tasks = (
  row-keeps processes workers port older from seq task senders.0 lawful.0.order tasks,
  keeps-owner processes workers port older lawful.1 senders.1 (λ s within. all-front TaskKeeps (rows_from (Process s) older) (task_from (Process s) from task) (tasks s within)),
)
keeps-owner processes workers port (Late from seq task ∷ older) lawful senders tasks =
    keeps-owner processes workers port older lawful.1 senders.1 (λ s within. all-front TaskKeeps (rows_from (Process s) older) (task_from (Process s) from task) (tasks s within))
keeps-owner processes workers port (Listed from seq ∷ older) lawful senders tasks = keeps-owner processes workers port older lawful.1 senders.1 tasks
keeps-owner processes workers port (Resumed from seq word ∷ older) lawful senders tasks = keeps-owner processes workers port older lawful.1 senders.1 tasks
keeps-owner processes workers port (Mark kind ∷ older) lawful senders tasks = keeps-owner processes workers port older lawful.1 senders.1 tasks

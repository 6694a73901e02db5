-- The rows of a port by their senders: the processes of a run, the poller and the workers.
use Rattle.std.proofs.Common.{◌≡◌, ℕ, ◌+◌, ◌<◌, List, [], ◌∷◌, ◌++◌, length, Bool, true, false, cond, eqb, refl, sym, ap, ◌∙◌, subst, arith}
use Rattle.std.specs.List.{All}
use Rattle.std.proofs.lemmas.Bool.{and_parts, eq-eqb, ne_eqb}
use Rattle.std.proofs.lemmas.List.{get_or_append_left, get_or-append-add, length-append}
use Rattle.std.proofs.lemmas.List.Elements.{All-head, All-tail}
use Rattle.std.proofs.lemmas.List.Sums.{sum_by-append, sum_by-cons}
use Rattle.port_model.specs.declared.row.Row.{Row}
use Rattle.port_model.specs.declared.row.Row.TheVariants.{Handled, Late, Listed, Resumed, Mark}
use Rattle.port_model.specs.declared.signal.Sender.{Sender}
use Rattle.port_model.specs.declared.signal.Sender.TheVariants.{Process, Poller, Worker, Timer}
use Rattle.port_model.specs.declared.signal.Signal.{Signal}
use Rattle.port_model.specs.Tasks.{TaskView}
use Rattle.run_output.specs.script_input.run_opening.port_body.LanePort.{rows_from, task_from}
use Rattle.port_history.specs.Lawful.{Lawful}
use Rattle.port_history.specs.Laws.{count_of, may_send}
use Rattle.port_history.specs.Opening.{Opening, same_sender}
use Rattle.port_history.specs.State.{state}
use Rattle.run_output.specs.script_run.Ran.{IsFrom}
use Rattle.command_counts.specs.Rows.{AreQuiet, IsQuiet, task_sum}
use Rattle.run_laws.proofs.summary.Asking.{tasks_sum}
use Rattle.run_laws.proofs.summary.Sums.{over, over-add, over-none, over-one, over-same}

-- what holds of both parts of a list
pub All-first : {X : Type 0} (P : X → Type 0) (xs ys : List X) → All P (xs ++ ys) → All P xs
All-first P xs ys all k d below = subst P (get_or_append_left xs ys d k below) (all k d (let long = length-append xs ys in omega (arith, below, long)))

pub All-second : {X : Type 0} (P : X → Type 0) (xs ys : List X) → All P (xs ++ ys) → All P ys
All-second P xs ys all k d below = subst P (get_or-append-add xs ys k d) (all (length xs + k) d (let long = length-append xs ys in omega (arith, below, long)))

-- a number that counts nothing of what the poller and the workers tell
abbrev pub OfProcesses : (Signal → ℕ) → Type 0
OfProcesses f = (from : Sender) (signal : Signal) → ((process : ℕ) → from ≡ Process process → ⊥) → may_send from signal ≡ true → f signal ≡ 0

-- the tasks of a row, by sender
from-sum : (f : Signal → ℕ) (s : ℕ) (from : Sender) (task : TaskView) (older : List Row)
    → tasks_sum f (rows_from (Process s) older ++ task_from (Process s) from task) ≡ tasks_sum f (rows_from (Process s) older) + cond (same_sender (Process s) from) (f task.signal) 0
from-sum f s from task older = sum_by-append (λ t. f t.signal) (rows_from (Process s) older) (task_from (Process s) from task) ∙ ap (λ n. tasks_sum f (rows_from (Process s) older) + n) (one (same_sender (Process s) from))
  where
    one : (b : Bool) → tasks_sum f (cond b (task ∷ []) []) ≡ cond b (f task.signal) 0
    one true = sum_by-cons (λ t. f t.signal) task [] ∙ (let e : f task.signal + 0 ≡ f task.signal = omega arith in e)
    one false = refl

-- one task more
sender-sum : (f : Signal → ℕ) → OfProcesses f → (n workers : ℕ) (from : Sender) (task : TaskView) (row : Row) → IsFrom n workers (Late from 0 task) → may_send from task.signal ≡ true
    → over n (λ s. cond (same_sender (Process s) from) (f task.signal) 0) ≡ f task.signal
sender-sum f of n workers (Process process) task row is may =
    over-one n process (f task.signal) (λ s. cond (eqb s process) (f task.signal) 0) is (ap (λ b. cond b (f task.signal) 0) (eq-eqb process process refl)) (λ s apart. ap (λ b. cond b (f task.signal) 0) (ne_eqb s process apart))
sender-sum f of n workers Poller task row is may = over-none n (λ s. 0) (λ s below. refl) ∙ sym (of Poller task.signal (λ p e. cc) may)
sender-sum f of n workers (Worker worker) task row is may = over-none n (λ s. 0) (λ s below. refl) ∙ sym (of (Worker worker) task.signal (λ p e. cc) may)
sender-sum f of n workers Timer task row is may = absurd is

-- the sum over all rows is that over the processes
pub rows-sum : (f : Signal → ℕ) → OfProcesses f → (n workers : ℕ) (port : Opening) (history : List Row) → Lawful port history → All (IsFrom n workers) history
    → over n (λ s. tasks_sum f (rows_from (Process s) history)) ≡ task_sum f history
rows-sum f of n workers port [] lawful senders = over-none n (λ s. 0) (λ s below. refl)
rows-sum f of n workers port (Handled from seq task outside effects ∷ older) lawful senders =
    let row = Handled from seq task outside effects in
    over-same n _ _ (λ s below. from-sum f s from task older)
    ∙ over-add n (λ s. tasks_sum f (rows_from (Process s) older)) (λ s. cond (same_sender (Process s) from) (f task.signal) 0)
    ∙ (λ i. rows-sum f of n workers port older lawful.1 (All-tail (IsFrom n workers) row older senders) i
    + sender-sum f of n workers from task row (All-head (IsFrom n workers) row older senders) (and_parts (eqb seq (count_of from (state port older).senders)) (may_send from task.signal) lawful.0.order).1 i)
rows-sum f of n workers port (Late from seq task ∷ older) lawful senders =
    let row = Late from seq task in
    over-same n _ _ (λ s below. from-sum f s from task older)
    ∙ over-add n (λ s. tasks_sum f (rows_from (Process s) older)) (λ s. cond (same_sender (Process s) from) (f task.signal) 0)
    ∙ (λ i. rows-sum f of n workers port older lawful.1 (All-tail (IsFrom n workers) row older senders) i
    + sender-sum f of n workers from task row (All-head (IsFrom n workers) row older senders) (and_parts (eqb seq (count_of from (state port older).senders)) (may_send from task.signal) lawful.0.order).1 i)
rows-sum f of n workers port (Listed from seq ∷ older) lawful senders = rows-sum f of n workers port older lawful.1 (All-tail (IsFrom n workers) (Listed from seq) older senders)
rows-sum f of n workers port (Resumed from seq word ∷ older) lawful senders = rows-sum f of n workers port older lawful.1 (All-tail (IsFrom n workers) (Resumed from seq word) older senders)
rows-sum f of n workers port (Mark kind ∷ older) lawful senders = rows-sum f of n workers port older lawful.1 (All-tail (IsFrom n workers) (Mark kind) older senders)

-- the tasks of each process are quiet for the port of an owner
abbrev pub TasksAreQuiet : ℕ → ℕ → List Row → Type 0
TasksAreQuiet owner n history = (s : ℕ) → s < n → All (λ (t : TaskView). IsQuiet owner (Process s) t.signal) (rows_from (Process s) history)

front-quiet : (owner n : ℕ) (from : Sender) (task : TaskView) (older : List Row)
    → ((s : ℕ) → s < n → All (λ (t : TaskView). IsQuiet owner (Process s) t.signal) (rows_from (Process s) older ++ task_from (Process s) from task)) → TasksAreQuiet owner n older
front-quiet owner n from task older quiet s below = All-first (λ (t : TaskView). IsQuiet owner (Process s) t.signal) (rows_from (Process s) older) (task_from (Process s) from task) (quiet s below)

row-quiet : (owner n workers : ℕ) (from : Sender) (task : TaskView) (older : List Row) → IsFrom n workers (Late from 0 task)
    → ((s : ℕ) → s < n → All (λ (t : TaskView). IsQuiet owner (Process s) t.signal) (rows_from (Process s) older ++ task_from (Process s) from task)) → IsQuiet owner from task.signal
row-quiet owner n workers (Process process) task older is quiet =
    let P : TaskView → Type 0 = λ t. IsQuiet owner (Process process) t.signal in
    All-head P task []
    (subst (λ b. All P (cond b (task ∷ []) [])) (eq-eqb process process refl)
    (All-second P (rows_from (Process process) older) (task_from (Process process) (Process process) task) (quiet process is)))
row-quiet owner n workers Poller task older is quiet = tt
row-quiet owner n workers (Worker worker) task older is quiet = tt
row-quiet owner n workers Timer task older is quiet = tt

-- so are all rows
pub rows-quiet : (owner n workers : ℕ) (history : List Row) → All (IsFrom n workers) history → TasksAreQuiet owner n history → AreQuiet owner history
rows-quiet owner n workers [] senders quiet = tt
rows-quiet owner n workers (Handled from seq task outside effects ∷ older) senders quiet =
    let row = Handled from seq task outside effects in (
      row-quiet owner n workers from task older (All-head (IsFrom n workers) row older senders) quiet,
      rows-quiet owner n workers older (All-tail (IsFrom n workers) row older senders) (front-quiet owner n from task older quiet),
    )
rows-quiet owner n workers (Late from seq task ∷ older) senders quiet =
    rows-quiet owner n workers older (All-tail (IsFrom n workers) (Late from seq task) older senders) (front-quiet owner n from task older quiet)
rows-quiet owner n workers (Listed from seq ∷ older) senders quiet = rows-quiet owner n workers older (All-tail (IsFrom n workers) (Listed from seq) older senders) quiet
rows-quiet owner n workers (Resumed from seq word ∷ older) senders quiet = rows-quiet owner n workers older (All-tail (IsFrom n workers) (Resumed from seq word) older senders) quiet
rows-quiet owner n workers (Mark kind ∷ older) senders quiet = rows-quiet owner n workers older (All-tail (IsFrom n workers) (Mark kind) older senders) quiet

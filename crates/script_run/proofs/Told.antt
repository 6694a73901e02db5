-- The tasks of a poller that tell a port of an event, among the rows of the port and among what its rounds found.
use Rattle.std.proofs.Common.{◌≡◌, ◌≤◌, ◌+◌, ◌==◌, ◌&&◌, ℕ, Bool, true, false, cond, List, [], ◌∷◌, ◌++◌, map, refl, sym, ap, ◌∙◌, arith, append_assoc, count_by}
use Rattle.std.proofs.lemmas.Bool.{and_parts}
use Rattle.std.proofs.lemmas.List.{append-nil}
use Rattle.std.proofs.lemmas.List.Sums.{sum_by-cons, sum_by-append}
use Rattle.driver_model.specs.Same.{same_dir}
use Rattle.port_history.specs.Lawful.{Lawful}
use Rattle.port_history.specs.Laws.{count_of, may_send}
use Rattle.port_history.specs.Opening.{Opening, same_sender}
use Rattle.port_history.specs.State.{state}
use Rattle.port_lanes.specs.Parcels.{ParcelView}
use Rattle.port_model.specs.declared.event.Dir.{Dir}
use Rattle.port_model.specs.declared.event.Dir.TheVariants.{Read, Write}
use Rattle.port_model.specs.declared.row.Row.{Row}
use Rattle.port_model.specs.declared.row.Row.TheVariants.{Handled, Late, Listed, Resumed, Mark}
use Rattle.port_model.specs.declared.signal.Sender.{Sender}
use Rattle.port_model.specs.declared.signal.Sender.TheVariants.{Process, Poller, Worker, Timer}
use Rattle.port_model.specs.declared.signal.Signal.{Signal}
use Rattle.port_model.specs.declared.signal.Signal.TheVariants.{Ready}
use Rattle.port_model.specs.Tasks.{TaskView}
use Rattle.port_body.specs.LanePort.{rows_from, task_from}
use Rattle.port_body.specs.served_port.ready_select.declared.ask.PollAsk.{PollAsk}
use Rattle.port_body.specs.served_port.ready_select.declared.ask.PollAsk.TheVariants.{Arm, Drop, Finish}
use Rattle.port_body.specs.served_port.ready_select.declared.ask.Polled.{Polled}
use Rattle.port_body.specs.served_port.ready_select.declared.ask.Polled.TheVariants as polled
use Rattle.port_body.specs.served_port.ready_select.Answered.{tells}
use Rattle.port_body.specs.served_port.ready_select.Polling.{Poller as PollerView, IsRound, entry_of}
use Rattle.seated_script.specs.run_opening.run_seats.run_jobs.Rounds.{FoundRound, RoundsTo, dropped_task, ready_task, tasks_of}
use Rattle.seated_script.specs.run_opening.run_seats.run_jobs.Telling.{parcels_for, plain_parcel}
use Rattle.script_run.specs.Readiness.{is_ready_row, says_ready}

-- how often a thing passes, in a list with one more, and in two lists
pub count-cons : {X : Type 0} (p : X → Bool) (x : X) (xs : List X) → count_by p (x ∷ xs) ≡ cond (p x) 1 0 + count_by p xs
count-cons p x xs = sum_by-cons (λ y. cond (p y) 1 0) x xs

count-skip : {X : Type 0} (p : X → Bool) (x : X) (xs : List X) → p x ≡ false → count_by p (x ∷ xs) ≡ count_by p xs
count-skip p x xs fails = rw (count-cons p x xs, fails) (omega arith)

pub count-append : {X : Type 0} (p : X → Bool) (xs ys : List X) → count_by p (xs ++ ys) ≡ count_by p xs + count_by p ys
count-append p xs ys = sum_by-append (λ y. cond (p y) 1 0) xs ys

-- the task tells that this event is ready in this direction
abbrev pub is_ready_task : ℕ → Dir → TaskView → Bool
is_ready_task event dir task = says_ready event dir task.signal

-- no sender but the poller may say so
by-poller : (event : ℕ) (dir : Dir) (from : Sender) (signal : Signal) → may_send from signal ≡ true → says_ready event dir signal ≡ true → same_sender Poller from ≡ true
by-poller event dir Poller signal may says = refl
by-poller event dir (Process process) (Ready other way) may says = absurd cc
by-poller event dir (Process process) signal may says = absurd cc
by-poller event dir (Worker worker) (Ready other way) may says = absurd cc
by-poller event dir (Worker worker) signal may says = absurd cc
by-poller event dir Timer signal may says = absurd cc

one-row : (event : ℕ) (dir : Dir) (from : Sender) (task : TaskView) → may_send from task.signal ≡ true
    → cond (says_ready event dir task.signal) 1 0 ≤ count_by (is_ready_task event dir) (task_from Poller from task)
one-row event dir from task may = elim (says_ready event dir task.signal) as (λ b. says_ready event dir task.signal ≡ b → cond b 1 0 ≤ count_by (is_ready_task event dir) (task_from Poller from task)) [
  | true ↦ λ says. rw (by-poller event dir from task.signal may says, count-cons (is_ready_task event dir) task [], says) (omega arith)
  | false ↦ λ _. omega arith
] refl

task-row : (event : ℕ) (dir : Dir) (from : Sender) (task : TaskView) (row : Row) (older : List Row) → may_send from task.signal ≡ true → is_ready_row event dir row ≡ says_ready event dir task.signal
    → count_by (is_ready_row event dir) older ≤ count_by (is_ready_task event dir) (rows_from Poller older)
    → count_by (is_ready_row event dir) (row ∷ older) ≤ count_by (is_ready_task event dir) (rows_from Poller older ++ task_from Poller from task)
task-row event dir from task row older may is before =
    let one = one-row event dir from task may in
    rw (count-cons (is_ready_row event dir) row older, count-append (is_ready_task event dir) (rows_from Poller older) (task_from Poller from task), is) (omega (arith, one, before))

-- each row that tells a port so is of a task of the poller
pub rows-told : (port : Opening) (event : ℕ) (dir : Dir) (history : List Row) → Lawful port history
    → count_by (is_ready_row event dir) history ≤ count_by (is_ready_task event dir) (rows_from Poller history)
rows-told port event dir [] lawful = omega arith
rows-told port event dir (Handled from seq task outside effects ∷ older) lawful =
    task-row event dir from task (Handled from seq task outside effects) older (and_parts (seq == count_of from (state port older).senders) (may_send from task.signal) lawful.0.order).1 refl
    (rows-told port event dir older lawful.1)
rows-told port event dir (Late from seq task ∷ older) lawful =
    task-row event dir from task (Late from seq task) older (and_parts (seq == count_of from (state port older).senders) (may_send from task.signal) lawful.0.order).1 refl
    (rows-told port event dir older lawful.1)
rows-told port event dir (Listed from seq ∷ older) lawful = rw (count-skip (is_ready_row event dir) (Listed from seq) older refl) (rows-told port event dir older lawful.1)
rows-told port event dir (Resumed from seq word ∷ older) lawful = rw (count-skip (is_ready_row event dir) (Resumed from seq word) older refl) (rows-told port event dir older lawful.1)
rows-told port event dir (Mark kind ∷ older) lawful = rw (count-skip (is_ready_row event dir) (Mark kind) older refl) (rows-told port event dir older lawful.1)

-- the tasks that the lane of a port gets of what was found
abbrev pub found_tasks : ℕ → List PollAsk → List TaskView
found_tasks port found = map (λ (p : ParcelView). p.task) (parcels_for port (tasks_of found))

tells-arm : (port event : ℕ) (dir : Dir) (other number : ℕ) (way : Dir) → tells (entry_of port event dir) (Arm other number way) ≡ ((number == event) && ((other == port) && same_dir way dir))
tells-arm port event Read other number Read = refl
tells-arm port event Read other number Write = refl
tells-arm port event Write other number Read = refl
tells-arm port event Write other number Write = refl

-- a task more, where it is for the port
one-task : (event : ℕ) (dir : Dir) (own : Bool) (task : TaskView) (rest : List ParcelView) → count_by (is_ready_task event dir) (map (λ (p : ParcelView). p.task) (cond own (plain_parcel task ∷ rest) rest))
    ≡ cond (own && is_ready_task event dir task) 1 0 + count_by (is_ready_task event dir) (map (λ (p : ParcelView). p.task) rest)
one-task event dir true task rest = count-cons (is_ready_task event dir) task (map (λ (p : ParcelView). p.task) rest)
one-task event dir false task rest = omega arith

own-first : (own event way : Bool) → (own && (event && way)) ≡ (event && (own && way))
own-first true true way = refl
own-first true false way = refl
own-first false true way = refl
own-first false false way = refl

never : (own : Bool) → (own && false) ≡ false
never true = refl
never false = refl

-- the port is told of the event as often as it was found for it
pub found-told : (port event : ℕ) (dir : Dir) (found : List PollAsk) → count_by (is_ready_task event dir) (found_tasks port found) ≡ count_by (tells (entry_of port event dir)) found
found-told port event dir [] = refl
found-told port event dir (Arm other number way ∷ found) =
    one-task event dir (other == port) (ready_task number way) (parcels_for port (tasks_of found))
    ∙ (λ i. cond (own-first (other == port) (number == event) (same_dir way dir) i) 1 0 + found-told port event dir found i)
    ∙ ap (λ b. cond b 1 0 + count_by (tells (entry_of port event dir)) found) (sym (tells-arm port event dir other number way))
    ∙ sym (count-cons (tells (entry_of port event dir)) (Arm other number way) found)
found-told port event dir (Drop other number ∷ found) =
    one-task event dir (other == port) (dropped_task number) (parcels_for port (tasks_of found))
    ∙ (λ i. cond (never (other == port) i) 1 0 + found-told port event dir found i)
    ∙ sym (count-cons (tells (entry_of port event dir)) (Drop other number) found)
found-told port event dir (Finish ∷ found) = found-told port event dir found ∙ sym (count-skip (tells (entry_of port event dir)) Finish found refl)

-- what the wait of a round answered stands behind all answers before it
one-answer : (old new : PollerView) (how : Polled) → IsRound old new how → (answers : List ℕ) × (new.answered ≡ old.answered ++ answers)
one-answer old new polled.Round r = (r.6.events, r.6.wait.3)
one-answer old new polled.Finished r = ([], r.1.answered_lem ∙ sym (append-nil old.answered))
one-answer old new polled.Failed r = ([], r.1.answered_lem ∙ sym (append-nil old.answered))
one-answer old new polled.NoMemory r = ([], r.1.answered_lem ∙ sym (append-nil old.answered))

-- and so it is with those of several rounds
pub all-answers : (old new : PollerView) (rounds : List FoundRound) → RoundsTo old rounds new → (answers : List ℕ) × (new.answered ≡ old.answered ++ answers)
all-answers old new [] same = ([], ap (λ (p : PollerView). p.answered) same ∙ sym (append-nil old.answered))
all-answers old new (round ∷ earlier) r =
    let before = all-answers old r.0 earlier r.1 in
    let now = one-answer r.0 (record new { found = round.found }) round.polled r.2 in
    (before.0 ++ now.0, now.1 ∙ ap (λ answers. answers ++ now.0) before.1 ∙ append_assoc old.answered before.0 now.0)

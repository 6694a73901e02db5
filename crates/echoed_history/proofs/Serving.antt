-- The history of a port that sends each command back, whose owner has sent it commands alone, and whose other processes send it their ends: it serves the owner.
use Rattle.std.proofs.Common.{◌≡◌, ℕ, ◌==◌, ◌&&◌, ◌||◌, not, Bool, true, false, cond, List, [], ◌∷◌, ◌++◌, Option, None, refl, sym, ap, ◌∙◌, subst, ⊎_elim}
use Rattle.std.specs.Prelude.{is_some, map}
use Rattle.std.specs.List.{AllByRecursion, flat_map, list_all}
use Rattle.std.proofs.lemmas.Bool.{and_parts, cases_eq, true≢false}
use Rattle.std.proofs.lemmas.List.{append-nil}
use Rattle.std.proofs.lemmas.List.Concat.{flat_map-append}
use Rattle.driver_model.specs.port_signal.Links.{has}
use Rattle.driver_model.specs.port_signal.declared.outside.Outside.{Outside}
use Rattle.driver_model.specs.Same.{same_effects}
use Rattle.port_history.specs.port_model.declared.effect.Effect.{Effect}
use Rattle.port_history.specs.port_model.declared.mail.Mail.{Mail}
use Rattle.port_history.specs.port_model.declared.mail.Mail.TheVariants as mail
use Rattle.port_history.specs.port_model.declared.row.Row.{Row}
use Rattle.port_history.specs.port_model.declared.row.Row.TheVariants.{Handled, Late, Listed, Resumed, Mark}
use Rattle.port_history.specs.port_model.declared.signal.Sender.{Sender}
use Rattle.port_history.specs.port_model.declared.signal.Sender.TheVariants.{Process}
use Rattle.port_history.specs.port_model.declared.signal.Signal.{Signal}
use Rattle.port_history.specs.port_model.declared.signal.Signal.TheVariants.{Command, Gone}
use Rattle.port_history.specs.port_model.Tasks.{TaskView}
use Rattle.port_history.specs.Counts.{saved_mail, saved_of, is_late_command, late_commands}
use Rattle.port_history.specs.Jobs.{is_done}
use Rattle.port_history.specs.Laws.{count_of, is_next, may_send, is_answered_by, all_resumed, is_given_back}
use Rattle.port_history.specs.Lawful.{KeepsLaws, Lawful, IsFinished}
use Rattle.port_history.specs.Mail.{Sent, send, mails, mail_for, row_mail, handled_mail}
use Rattle.port_history.specs.Opening.{Opening, taken_of}
use Rattle.port_history.specs.Service.{effects_after, first_reason}
use Rattle.port_history.specs.State.{State, state, is_open, signal_calls, row_calls, ties_after}
use Rattle.port_history.specs.Ties.{Ties, tied, untied, failure}
use Rattle.echoed_history.proofs.Effects.{}
use Rattle.echoed_history.specs.Laws.{NotFinishedBefore}
use Rattle.echoed_history.specs.Commands.{AreCommands, OthersEnd, echoes, is_plain_command, task_data}
use Rattle.port_body.specs.LanePort.{task_from, rows_from}
use Rattle.process_receipts.specs.Asks.{is_gone}
use Rattle.echoed_history.proofs.Effects.{same-effects, row-never-fails}
use Rattle.echoed_history.proofs.Rows.{IsServing, IsServed, stays-open, command-is-served, end-is-served, outside-is-served, is_outside, no-tasks, no-command, row-saved, not-late, own-task}
use Rattle.echoed_history.proofs.Lists.{back, front}

is-command : (signal : Signal) → is_plain_command signal ≡ true → (payload : List (List ℕ)) × (signal ≡ Command payload)
is-command (Command payload) e = (payload, refl)
is-command signal e = absurd cc

is-end : (signal : Signal) → is_gone signal ≡ true → (reason : List ℕ) × (signal ≡ Gone reason)
is-end (Gone reason) e = (reason, refl)
is-end signal e = absurd cc

-- what the rows tell while the port serves its owner
pub record Serves (port : Opening) (history : List Row) : Type 0 where
  pub serving : IsServing port (state port history)
  pub saved : saved_of port.number (mails port port.owner history) ≡ flat_map task_data (rows_from (Process port.owner) history)
  pub none_late : late_commands history ≡ 0

-- what is saved of the mail after one more row
pub saved-more : (number : ℕ) (ended : Bool) (before more : List Mail) → saved_of number more ≡ [] → saved_of number (cond ended before (before ++ more)) ≡ saved_of number before
saved-more number true before more none = refl
saved-more number false before more none = flat_map-append (saved_mail number) before more ∙ ap (λ bytes. saved_of number before ++ bytes) none ∙ append-nil (saved_of number before)

data-more : (owner : ℕ) (from : Sender) (task : TaskView) (tasks : List TaskView) → task_from (Process owner) from task ≡ [] → tasks ≡ tasks ++ task_from (Process owner) from task
data-more owner from task tasks none = sym (ap (λ more. tasks ++ more) none ∙ append-nil tasks)

-- the row of a handled task that the port stays open after
handled : (port : Opening) (older : List Row) (from : Sender) (seq : ℕ) (task : TaskView) (outside : List Outside) (effects made : List Effect) → echoes port.kind ≡ true
    → KeepsLaws port (state port older) (Handled from seq task outside effects) → Serves port older → IsServed port (state port older) (taken_of from seq task outside effects) made
    → Serves port (Handled from seq task outside effects ∷ older)
handled port older from seq task outside effects made is laws before served =
    let s = state port older in
    let t = taken_of from seq task outside effects in
    let given : effects ≡ effects_after port s.calls (row_calls port s t) =
    same-effects effects (effects_after port s.calls (row_calls port s t)) (and_parts (same_effects effects (effects_after port s.calls (row_calls port s t))) (is_answered_by port s (signal_calls s t) outside) laws.effects).0 in
    let fails : failure effects ≡ None = ap failure given ∙ row-never-fails port s.calls (row_calls port s t) is in
    let stays = stays-open port s t before.serving fails served.none in
    let same : ties_after port s t ≡ tied port s.ties from task.signal = ap (λ r. cond (is_some r) (untied (tied port s.ties from task.signal)) (tied port s.ties from task.signal)) stays.closing in
    let alive : has port.owner (ties_after port s t).ended ≡ false = ap (λ (x : Ties). has port.owner x.ended) same ∙ served.alive in
    let mail = mail_for port.owner (handled_mail port s t) in
    let old = mails port port.owner older in
    record {
      serving = record {
        unclosed = λ i. first_reason (before.serving.unclosed i) (stays.closing i);
        owner = ap (λ (x : Ties). x.owner) same ∙ served.owner;
        linked = ap (λ (x : Ties). x.linked) same ∙ served.linked;
        alive = alive;
        running = λ i. before.serving.running i || stays.runs i;
      };
      saved = ap (λ b. saved_of port.number (cond b old (old ++ mail))) alive
          ∙ flat_map-append (saved_mail port.number) old mail
          ∙ (λ i. before.saved i ++ row-saved port s t made stays served (given ∙ ap (effects_after port s.calls) stays.calls ∙ served.made) i)
          ∙ sym (flat_map-append task_data (rows_from (Process port.owner) older) (task_from (Process port.owner) from task));
      none_late = not-late (Handled from seq task outside effects) older refl before.none_late;
    }

-- an open port has no late task of a process
pub not-open : (r : Option (List ℕ)) → r ≡ None → not (not (is_some r)) ≡ true → ⊥
not-open r none late = true≢false (sym late ∙ ap (λ x. not (not (is_some x))) none)

pub resumed-saved : (number owner p seq word : ℕ) (closed : Bool) → saved_of number (mail_for owner (send p (mail.Resume number seq word closed) ∷ [])) ≡ []
resumed-saved number owner p seq word closed = resume (p == owner)
  where
    resume : (b : Bool) → saved_of number (map (λ (m : Sent). m.mail) (cond b (send p (mail.Resume number seq word closed) ∷ []) [])) ≡ []
    resume true = refl
    resume false = refl

pub own-tasks : (P : TaskView → Type 0) (owner : ℕ) (task : TaskView) (tasks : List TaskView) → AllByRecursion P (tasks ++ task_from (Process owner) (Process owner) task) → P task
own-tasks P owner task tasks all = (subst (AllByRecursion P) (own-task owner owner task refl) (back P tasks (task_from (Process owner) (Process owner) task) all)).0

-- a state that differs in nothing that serving speaks of
still-serving : (port : Opening) (s s' : State) → s'.reason ≡ s.reason → s'.ties ≡ s.ties → s'.stopped ≡ s.stopped → IsServing port s → IsServing port s'
still-serving port s s' reason ties stopped serving = record {
  unclosed = reason ∙ serving.unclosed;
  owner = ap (λ (x : Ties). x.owner) ties ∙ serving.owner;
  linked = ap (λ (x : Ties). x.linked) ties ∙ serving.linked;
  alive = ap (λ (x : Ties). has port.owner x.ended) ties ∙ serving.alive;
  running = stopped ∙ serving.running;
}

-- a row after which the port stands as before
idle : (port : Opening) (row : Row) (older : List Row) → Serves port older → (state port (row ∷ older)).reason ≡ (state port older).reason → (state port (row ∷ older)).ties ≡ (state port older).ties
    → (state port (row ∷ older)).stopped ≡ (state port older).stopped → saved_of port.number (mail_for port.owner (row_mail port (state port older) row)) ≡ []
    → rows_from (Process port.owner) older ≡ rows_from (Process port.owner) (row ∷ older) → is_late_command row ≡ false → Serves port (row ∷ older)
idle port row older before reason ties stopped none rows late = record {
  serving = still-serving port (state port older) (state port (row ∷ older)) reason ties stopped before.serving;
  saved = saved-more port.number (has port.owner (state port (row ∷ older)).ties.ended) (mails port port.owner older) (mail_for port.owner (row_mail port (state port older) row)) none
      ∙ before.saved ∙ ap (flat_map task_data) rows;
  none_late = not-late row older late before.none_late;
}

pub may-send : (port : Opening) (older : List Row) (from : Sender) (seq : ℕ) (signal : Signal) → is_next (state port older) from seq signal ≡ true → may_send from signal ≡ true
may-send port older from seq signal next = (and_parts (seq == count_of from (state port older).senders) (may_send from signal) next).1

told : (port : Opening) (older : List Row) (from : Sender) (seq : ℕ) (task : TaskView) (outside : List Outside) (effects : List Effect) → echoes port.kind ≡ true → is_outside from ≡ true
    → KeepsLaws port (state port older) (Handled from seq task outside effects) → Serves port older → Serves port (Handled from seq task outside effects ∷ older)
told port older from seq task outside effects is out laws before =
    handled port older from seq task outside effects [] is laws before
    (outside-is-served port (state port older) from seq task outside effects is before.serving out (may-send port older from seq task.signal laws.order))

told-late : (port : Opening) (older : List Row) (from : Sender) (seq : ℕ) (task : TaskView) → is_outside from ≡ true
    → KeepsLaws port (state port older) (Late from seq task) → Serves port older → Serves port (Late from seq task ∷ older)
told-late port older (Process p) seq task out laws before = absurd cc
told-late port older from seq task out laws before =
    idle port (Late from seq task) older before refl refl refl refl (data-more port.owner from task (rows_from (Process port.owner) older) (no-tasks port.owner from task out))
    (no-command from task.signal out (may-send port older from seq task.signal laws.order))

-- as long as the owner hasn't closed the port or ended, the port serves it
pub serves : (port : Opening) (history : List Row) → echoes port.kind ≡ true → Lawful port history → AreCommands (rows_from (Process port.owner) history) → OthersEnd port.owner history → Serves port history
serves port [] is lawful commands others = record { serving = record { unclosed = refl; owner = refl; linked = refl; alive = refl; running = refl }; saved = refl; none_late = refl }
serves port (Handled (Process p) seq task outside effects ∷ older) is lawful commands others =
    let before = serves port older is lawful.1 (front _ (rows_from (Process port.owner) older) (task_from (Process port.owner) (Process p) task) commands)
    (λ q apart. front _ (rows_from (Process q) older) (task_from (Process q) (Process p) task) (others q apart)) in
    ⊎_elim
    (λ own.
    let tasks = back _ (rows_from (Process port.owner) older) (task_from (Process port.owner) (Process p) task) commands in
    let command = is-command task.signal (subst AreCommands (own-task port.owner p task own) tasks).0 in
    handled port older (Process p) seq task outside effects _ is lawful.0 before (command-is-served port (state port older) p seq task outside effects command.0 is before.serving own command.1))
    (λ apart.
    let gone = is-end task.signal (own-tasks (λ (t : TaskView). is_gone t.signal ≡ true) p task (rows_from (Process p) older) (others p apart)) in
    handled port older (Process p) seq task outside effects _ is lawful.0 before (end-is-served port (state port older) p seq task outside effects gone.0 is before.serving apart gone.1))
    (cases_eq p port.owner)
serves port (Handled from seq task outside effects ∷ older) is lawful commands others =
    told port older from seq task outside effects is refl lawful.0
    (serves port older is lawful.1 (front _ (rows_from (Process port.owner) older) (task_from (Process port.owner) from task) commands)
    (λ q apart. front _ (rows_from (Process q) older) (task_from (Process q) from task) (others q apart)))
serves port (Late (Process p) seq task ∷ older) is lawful commands others =
    let before = serves port older is lawful.1 (front _ (rows_from (Process port.owner) older) (task_from (Process port.owner) (Process p) task) commands)
    (λ q apart. front _ (rows_from (Process q) older) (task_from (Process q) (Process p) task) (others q apart)) in
    absurd (not-open (state port older).reason before.serving.unclosed lawful.0.lifetime)
serves port (Late from seq task ∷ older) is lawful commands others =
    told-late port older from seq task refl lawful.0
    (serves port older is lawful.1 (front _ (rows_from (Process port.owner) older) (task_from (Process port.owner) from task) commands)
    (λ q apart. front _ (rows_from (Process q) older) (task_from (Process q) from task) (others q apart)))
serves port (Listed from seq ∷ older) is lawful commands others = idle port (Listed from seq) older (serves port older is lawful.1 commands others) refl refl refl refl refl refl
serves port (Resumed (Process p) seq word ∷ older) is lawful commands others =
    idle port (Resumed (Process p) seq word) older (serves port older is lawful.1 commands others) refl refl refl
    (resumed-saved port.number port.owner p seq word (not (is_open (state port older)))) refl refl
serves port (Resumed from seq word ∷ older) is lawful commands others = idle port (Resumed from seq word) older (serves port older is lawful.1 commands others) refl refl refl refl refl refl
serves port (Mark kind ∷ older) is lawful commands others = idle port (Mark kind) older (serves port older is lawful.1 commands others) refl refl refl refl refl refl

-- a port that serves its owner isn't finished
pub unfinished : (port : Opening) (history : List Row) → IsFinished port history → Serves port history → ⊥
unfinished port history finished serves =
    let s = state port history in
    let given = list_all is_given_back s.events in
    let done = list_all (λ job. is_done job.number s.done) s.jobs in
    let stopped = (and_parts s.stopped (all_resumed s.listed) (and_parts (s.stopped && all_resumed s.listed) given (and_parts ((s.stopped && all_resumed s.listed) && given) done finished.end).0).0).0 in
    true≢false (sym stopped ∙ serves.serving.running)

pub not-finished-before : NotFinishedBefore
not-finished-before port history is lawful commands others finished = unfinished port history finished (serves port history is lawful commands others)

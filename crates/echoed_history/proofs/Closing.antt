-- The history of a port that sends each command back, from the row on in which its owner closes it or ends: no data is sent any more, and no command comes.
use Rattle.std.proofs.Common.{◌≡◌, ℕ, ◌==◌, not, Bool, true, false, cond, List, [], ◌∷◌, ◌++◌, Option, Some, None, refl, sym, ap, ◌∙◌, subst, inl, inr, ◌⊎◌, ⊎_elim, append_assoc}
use Rattle.std.specs.Prelude.{is_some}
use Rattle.std.specs.List.{flat_map}
use Rattle.std.proofs.lemmas.Bool.{and_parts, cases_eq, true≢false}
use Rattle.std.proofs.lemmas.List.{append-nil}
use Rattle.std.proofs.lemmas.List.Concat.{flat_map-append}
use Rattle.driver_model.specs.port_signal.Links.{has}
use Rattle.driver_model.specs.port_signal.declared.outside.Outside.{Outside}
use Rattle.driver_model.specs.Same.{same_effects}
use Rattle.port_history.specs.port_model.declared.effect.Effect.{Effect}
use Rattle.port_history.specs.port_model.declared.row.Row.{Row}
use Rattle.port_history.specs.port_model.declared.row.Row.TheVariants.{Handled, Late, Listed, Resumed, Mark}
use Rattle.port_history.specs.port_model.declared.signal.Sender.{Sender}
use Rattle.port_history.specs.port_model.declared.signal.Sender.TheVariants.{Process}
use Rattle.port_history.specs.port_model.declared.signal.Signal.{Signal}
use Rattle.port_history.specs.port_model.declared.signal.Signal.TheVariants.{Gone}
use Rattle.port_history.specs.port_model.Tasks.{TaskView}
use Rattle.port_history.specs.Counts.{saved_of, is_late_command}
use Rattle.port_history.specs.Laws.{is_answered_by}
use Rattle.port_history.specs.Lawful.{KeepsLaws, Lawful}
use Rattle.port_history.specs.Mail.{mails, mail_for, row_mail}
use Rattle.port_history.specs.Opening.{Opening, taken_of}
use Rattle.port_history.specs.Service.{callback_of, effects_after, first_reason}
use Rattle.port_history.specs.State.{state, is_open, closing_reason, signal_calls, row_calls}
use Rattle.port_history.specs.Ties.{failure}
use Rattle.port_body.specs.LanePort.{task_from, rows_from}
use Rattle.process_receipts.specs.Asks.{is_gone}
use Rattle.echoed_history.specs.Commands.{AreClosings, AreCommands, ClosesBehind, OthersEnd, echoes, is_closing, task_data}
use Rattle.echoed_history.specs.Laws.{CommandsComeBack, SendsBack}
use Rattle.echoed_history.proofs.Effects.{same-effects}
use Rattle.echoed_history.proofs.Lists.{back, front, has-last, none-behind, same-last}
use Rattle.echoed_history.proofs.Rows.{closes-for, closing-command, closing-data, closing-quiet, is_outside, is_quiet, no-command, no-tasks, not-late, other-task, own-task, quiet-outside, row-silent}
use Rattle.echoed_history.proofs.Serving.{Serves, may-send, not-open, own-tasks, resumed-saved, saved-more, serves}
use Rattle.echoed_history.proofs.Unsaved.{handled-unsaved, late-unsaved}

-- what the rows tell once the owner has closed the port or ended
pub record HasClosed (port : Opening) (history : List Row) : Type 0 where
  pub closed : is_some (state port history).reason ≡ true
  pub back : SendsBack port history

-- a row that sends the owner no data, and is no command
behind : (port : Opening) (row : Row) (older : List Row) → SendsBack port older → is_some (state port (row ∷ older)).reason ≡ true
    → saved_of port.number (mail_for port.owner (row_mail port (state port older) row)) ≡ []
    → flat_map task_data (rows_from (Process port.owner) older) ≡ flat_map task_data (rows_from (Process port.owner) (row ∷ older)) → is_late_command row ≡ false → HasClosed port (row ∷ older)
behind port row older before closed none same late = record {
  closed = closed;
  back = record {
    saved = saved-more port.number (has port.owner (state port (row ∷ older)).ties.ended) (mails port port.owner older) (mail_for port.owner (row_mail port (state port older) row)) none ∙ before.saved ∙ same;
    none_late = not-late row older late before.none_late;
  };
}

-- a task that has no data
no-data : (owner : ℕ) (from : Sender) (task : TaskView) (tasks : List TaskView) → flat_map task_data (task_from (Process owner) from task) ≡ []
    → flat_map task_data tasks ≡ flat_map task_data (tasks ++ task_from (Process owner) from task)
no-data owner from task tasks none =
    sym (flat_map-append task_data tasks (task_from (Process owner) from task) ∙ ap (λ bytes. flat_map task_data tasks ++ bytes) none ∙ append-nil (flat_map task_data tasks))

outside-data : (owner : ℕ) (from : Sender) (task : TaskView) (tasks : List TaskView) → is_outside from ≡ true → flat_map task_data tasks ≡ flat_map task_data (tasks ++ task_from (Process owner) from task)
outside-data owner from task tasks out = no-data owner from task tasks (ap (flat_map task_data) (no-tasks owner from task out))

closing-task : (owner p : ℕ) (task : TaskView) (tasks : List TaskView) → is_closing task.signal ≡ true → flat_map task_data tasks ≡ flat_map task_data (tasks ++ task_from (Process owner) (Process p) task)
closing-task owner p task tasks is = no-data owner (Process p) task tasks (by (owner == p))
  where
    by : (b : Bool) → flat_map task_data (cond b (task ∷ []) []) ≡ []
    by true = (λ i. closing-data task.signal is i ++ [])
    by false = refl

-- a handled row whose signal has no effect in the driver has no effects
no-effects : (port : Opening) (older : List Row) (from : Sender) (seq : ℕ) (task : TaskView) (outside : List Outside) (effects : List Effect) → echoes port.kind ≡ true
    → KeepsLaws port (state port older) (Handled from seq task outside effects) → is_quiet (callback_of (state port older).ties (state port older).watched from task.signal) ≡ true → effects ≡ []
no-effects port older from seq task outside effects is laws quiet =
    let s = state port older in
    let t = taken_of from seq task outside effects in
    same-effects effects (effects_after port s.calls (row_calls port s t)) (and_parts (same_effects effects (effects_after port s.calls (row_calls port s t))) (is_answered_by port s (signal_calls s t) outside) laws.effects).0
    ∙ row-silent port s t is quiet

-- the row in which the owner closes the port or ends
closes : (port : Opening) (older : List Row) (p seq : ℕ) (task : TaskView) (outside : List Outside) (effects : List Effect) → echoes port.kind ≡ true
    → KeepsLaws port (state port older) (Handled (Process p) seq task outside effects) → Serves port older → p ≡ port.owner → is_closing task.signal ≡ true
    → HasClosed port (Handled (Process p) seq task outside effects ∷ older)
closes port older p seq task outside effects is laws before own closing =
    let s = state port older in
    let t = taken_of (Process p) seq task outside effects in
    let none = no-effects port older (Process p) seq task outside effects is laws (closing-quiet s.ties s.watched p task.signal closing) in
    let for = closes-for s.ties p task.signal (own ∙ sym before.serving.owner) closing in
    let reason : closing_reason s t ≡ Some for.0 = λ i. cond (is_some (before.serving.unclosed i)) None (first_reason (failure (none i)) (for.1 i)) in
    behind port (Handled (Process p) seq task outside effects) older (record { saved = before.saved; none_late = before.none_late }) (λ i. is_some (first_reason (before.serving.unclosed i) (reason i)))
    (handled-unsaved port.number port.owner port s t none) (closing-task port.owner p task (rows_from (Process port.owner) older) closing) refl

-- the reason for which a port closed stays
stays-closed : (r other : Option (List ℕ)) → is_some r ≡ true → is_some (first_reason r other) ≡ true
stays-closed (Some reason) other closed = refl
stays-closed None other closed = absurd cc

-- no task of a process is handled where the port is closed
not-closed : (r : Option (List ℕ)) → is_some r ≡ true → not (is_some r) ≡ true → ⊥
not-closed r closed unclosed = true≢false (sym unclosed ∙ ap not closed)

-- a row of the poller or of a worker behind the close
told-behind : (port : Opening) (older : List Row) (from : Sender) (seq : ℕ) (task : TaskView) (outside : List Outside) (effects : List Effect) → echoes port.kind ≡ true → is_outside from ≡ true
    → KeepsLaws port (state port older) (Handled from seq task outside effects) → HasClosed port older → HasClosed port (Handled from seq task outside effects ∷ older)
told-behind port older from seq task outside effects is out laws before =
    let s = state port older in
    let t = taken_of from seq task outside effects in
    let none = no-effects port older from seq task outside effects is laws (quiet-outside s.ties s.watched from task.signal out (may-send port older from seq task.signal laws.order)) in
    behind port (Handled from seq task outside effects) older before.back (stays-closed s.reason (closing_reason s t) before.closed) (handled-unsaved port.number port.owner port s t none)
    (outside-data port.owner from task (rows_from (Process port.owner) older) out) refl

late-behind : (port : Opening) (older : List Row) (from : Sender) (seq : ℕ) (task : TaskView) → is_outside from ≡ true
    → KeepsLaws port (state port older) (Late from seq task) → HasClosed port older → HasClosed port (Late from seq task ∷ older)
late-behind port older (Process p) seq task out laws before = absurd cc
late-behind port older from seq task out laws before =
    behind port (Late from seq task) older before.back before.closed refl (outside-data port.owner from task (rows_from (Process port.owner) older) out)
    (no-command from task.signal out (may-send port older from seq task.signal laws.order))

-- a late close, or a late end
closing-behind : (port : Opening) (older : List Row) (p seq : ℕ) (task : TaskView) → is_closing task.signal ≡ true → HasClosed port older → HasClosed port (Late (Process p) seq task ∷ older)
closing-behind port older p seq task closing before =
    behind port (Late (Process p) seq task) older before.back before.closed (late-unsaved port.number port.owner port.number p seq task.signal)
    (closing-task port.owner p task (rows_from (Process port.owner) older) closing) (closing-command task.signal closing)

-- what tells of the owner's end closes the port
pub gone-closing : (signal : Signal) → is_gone signal ≡ true → is_closing signal ≡ true
gone-closing (Gone reason) is = refl
gone-closing signal is = absurd cc

-- a row that isn't the owner's
still-closes : (owner : ℕ) (commands closings : List TaskView) (row : Row) (older : List Row) → ClosesBehind owner commands closings (row ∷ older)
    → rows_from (Process owner) older ≡ rows_from (Process owner) (row ∷ older) → ClosesBehind owner commands closings older
still-closes owner commands closings row older closes same = record { tasks = same ∙ closes.tasks; commands_are = closes.commands_are; closings_are = closes.closings_are }

-- before the last of the owner's tasks, which closes the port, stand commands alone, or others that do so behind them
abbrev StandBefore : ℕ → List TaskView → List Row → Type 0
StandBefore owner commands older = AreCommands (rows_from (Process owner) older) ⊎ ((first : TaskView) × (closings : List TaskView) × ClosesBehind owner commands (first ∷ closings) older)

stand-before : (owner : ℕ) (commands before : List TaskView) (older : List Row) → rows_from (Process owner) older ≡ commands ++ before → AreCommands commands → AreClosings before
    → StandBefore owner commands older
stand-before owner commands [] older tasks are closings = inl (subst AreCommands (sym (tasks ∙ append-nil commands)) are)
stand-before owner commands (first ∷ before) older tasks are closings = inr (first, before, record { tasks = tasks; commands_are = are; closings_are = closings })

last-closes : (owner p : ℕ) (commands : List TaskView) (first : TaskView) (closings : List TaskView) (task : TaskView) (row : Row) (older : List Row)
    → ClosesBehind owner commands (first ∷ closings) (row ∷ older) → rows_from (Process owner) (row ∷ older) ≡ rows_from (Process owner) older ++ task_from (Process owner) (Process p) task → p ≡ owner
    → (is_closing task.signal ≡ true) × StandBefore owner commands older
last-closes owner p commands first closings task row older closes more own =
    let parts = has-last first closings in
    let before = parts.0 in
    let last = parts.1 in
    let same = same-last (rows_from (Process owner) older) (commands ++ before) task last
    (ap (λ ts. rows_from (Process owner) older ++ ts) (sym (own-task owner p task own)) ∙ sym more ∙ closes.tasks ∙ ap (λ ts. commands ++ ts) parts.2 ∙ sym (append_assoc commands before (last ∷ []))) in
    let are = subst AreClosings parts.2 closes.closings_are in (
      ap (λ (t : TaskView). is_closing t.signal) same.1 ∙ (back _ before (last ∷ []) are).0,
      stand-before owner commands before older same.0 closes.commands_are (front _ before (last ∷ []) are),
    )

other-rows : (owner p : ℕ) (task : TaskView) (tasks : List TaskView) → (p ≡ owner → ⊥) → tasks ≡ tasks ++ task_from (Process owner) (Process p) task
other-rows owner p task tasks apart = sym (ap (λ more. tasks ++ more) (other-task owner p task apart) ∙ append-nil tasks)

outside-rows : (owner : ℕ) (from : Sender) (task : TaskView) (tasks : List TaskView) → is_outside from ≡ true → tasks ≡ tasks ++ task_from (Process owner) from task
outside-rows owner from task tasks out = sym (ap (λ more. tasks ++ more) (no-tasks owner from task out) ∙ append-nil tasks)

-- once the owner has closed the port or ended, all its commands were sent back
pub has-closed : (port : Opening) (commands : List TaskView) (first : TaskView) (closings : List TaskView) (history : List Row) → echoes port.kind ≡ true → Lawful port history
    → ClosesBehind port.owner commands (first ∷ closings) history → OthersEnd port.owner history → HasClosed port history
has-closed port commands first closings [] is lawful ends others = absurd (none-behind commands closings first ends.tasks)
has-closed port commands first closings (Handled (Process p) seq task outside effects ∷ older) is lawful ends others =
    let fewer : OthersEnd port.owner older = λ q apart. front _ (rows_from (Process q) older) (task_from (Process q) (Process p) task) (others q apart) in
    let row = Handled (Process p) seq task outside effects in
    ⊎_elim
    (λ own.
    let last = last-closes port.owner p commands first closings task row older ends refl own in
    ⊎_elim
    (λ before. closes port older p seq task outside effects is lawful.0 (serves port older is lawful.1 before fewer) own last.0)
    (λ earlier. absurd (not-closed (state port older).reason (has-closed port commands earlier.0 earlier.1 older is lawful.1 earlier.2 fewer).closed lawful.0.lifetime))
    last.1)
    (λ apart.
    let same = other-rows port.owner p task (rows_from (Process port.owner) older) apart in
    let before = has-closed port commands first closings older is lawful.1 (still-closes port.owner commands (first ∷ closings) row older ends same) fewer in
    absurd (not-closed (state port older).reason before.closed lawful.0.lifetime))
    (cases_eq p port.owner)
has-closed port commands first closings (Handled from seq task outside effects ∷ older) is lawful ends others =
    let row = Handled from seq task outside effects in
    let same = outside-rows port.owner from task (rows_from (Process port.owner) older) refl in
    told-behind port older from seq task outside effects is refl lawful.0
    (has-closed port commands first closings older is lawful.1 (still-closes port.owner commands (first ∷ closings) row older ends same)
    (λ q apart. front _ (rows_from (Process q) older) (task_from (Process q) from task) (others q apart)))
has-closed port commands first closings (Late (Process p) seq task ∷ older) is lawful ends others =
    let fewer : OthersEnd port.owner older = λ q apart. front _ (rows_from (Process q) older) (task_from (Process q) (Process p) task) (others q apart) in
    let row = Late (Process p) seq task in
    ⊎_elim
    (λ own.
    let last = last-closes port.owner p commands first closings task row older ends refl own in
    ⊎_elim
    (λ before. absurd (not-open (state port older).reason (serves port older is lawful.1 before fewer).serving.unclosed lawful.0.lifetime))
    (λ earlier. closing-behind port older p seq task last.0 (has-closed port commands earlier.0 earlier.1 older is lawful.1 earlier.2 fewer))
    last.1)
    (λ apart.
    let same = other-rows port.owner p task (rows_from (Process port.owner) older) apart in
    let gone = own-tasks (λ (t : TaskView). is_gone t.signal ≡ true) p task (rows_from (Process p) older) (others p apart) in
    closing-behind port older p seq task (gone-closing task.signal gone)
    (has-closed port commands first closings older is lawful.1 (still-closes port.owner commands (first ∷ closings) row older ends same) fewer))
    (cases_eq p port.owner)
has-closed port commands first closings (Late from seq task ∷ older) is lawful ends others =
    let row = Late from seq task in
    let same = outside-rows port.owner from task (rows_from (Process port.owner) older) refl in
    late-behind port older from seq task refl lawful.0
    (has-closed port commands first closings older is lawful.1 (still-closes port.owner commands (first ∷ closings) row older ends same)
    (λ q apart. front _ (rows_from (Process q) older) (task_from (Process q) from task) (others q apart)))
has-closed port commands first closings (Listed from seq ∷ older) is lawful ends others =
    let before = has-closed port commands first closings older is lawful.1 (still-closes port.owner commands (first ∷ closings) (Listed from seq) older ends refl) others in
    behind port (Listed from seq) older before.back before.closed refl refl refl
has-closed port commands first closings (Resumed (Process p) seq word ∷ older) is lawful ends others =
    let before = has-closed port commands first closings older is lawful.1 (still-closes port.owner commands (first ∷ closings) (Resumed (Process p) seq word) older ends refl) others in
    behind port (Resumed (Process p) seq word) older before.back before.closed (resumed-saved port.number port.owner p seq word (not (is_open (state port older)))) refl refl
has-closed port commands first closings (Resumed from seq word ∷ older) is lawful ends others =
    let before = has-closed port commands first closings older is lawful.1 (still-closes port.owner commands (first ∷ closings) (Resumed from seq word) older ends refl) others in
    behind port (Resumed from seq word) older before.back before.closed refl refl refl
has-closed port commands first closings (Mark kind ∷ older) is lawful ends others =
    let before = has-closed port commands first closings older is lawful.1 (still-closes port.owner commands (first ∷ closings) (Mark kind) older ends refl) others in
    behind port (Mark kind) older before.back before.closed refl refl refl

pub commands-come-back : CommandsComeBack
commands-come-back port commands [] history is lawful ends others =
    let serving = serves port history is lawful (subst AreCommands (sym (ends.tasks ∙ append-nil commands)) ends.commands_are) others in
    record { saved = serving.saved; none_late = serving.none_late }
commands-come-back port commands (first ∷ closings) history is lawful ends others = (has-closed port commands first closings history is lawful ends others).back

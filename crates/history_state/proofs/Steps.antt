-- What a row makes of the state.
use Rattle.std.proofs.Common.{◌≡◌, ℕ, Bool, true, false, ◌||◌, ◌&&◌, not, Option, Some, None, is_some, List, [], ◌∷◌, ◌++◌, drop, refl, sym, ap, ◌∙◌, subst}
use Rattle.std.specs.Prelude.{Result, Ok, Err, OnOk, nat_le, if◌then◌else◌}
use Rattle.std.proofs.lemmas.Bool.{and_parts, not-true}
use Rattle.port_signal.specs.declared.mark.MarkKind.{MarkKind}
use Rattle.port_model.specs.declared.signal.Sender.{Sender}
use Rattle.port_model.specs.declared.signal.Signal.{Signal}
use Rattle.port_model.specs.declared.effect.Effect.{Effect}
use Rattle.port_model.specs.declared.row.Row.TheVariants.{Listed, Resumed, Mark}
use Rattle.port_history.specs.Opening.{Opening, Taken}
use Rattle.port_history.specs.Events.{events_after}
use Rattle.port_history.specs.Jobs.{submitted_by, done_by}
use Rattle.port_history.specs.Marks.{is_busy, busy_after, busy_marks, closed_marks, is_due}
use Rattle.port_history.specs.Service.{first_reason}
use Rattle.port_history.specs.Suspension.{Entry, entry, has_entry, has_sender, is_first, is_queue_busy, without_entry}
use Rattle.port_history.specs.State.{State, after, after_handled, closing_reason, is_open}
use Rattle.port_history.specs.Laws.{count_of, keeps_listed, keeps_resumed}
use Rattle.port_history.specs.Ties.{tied, untied, watched_by}
use Rattle.history_tables.specs.declared.listed.ListedTasks.{ListedTasks}
use Rattle.history_tables.specs.declared.marks.PortMarks.{PortMarks}
use Rattle.history_tables.specs.Counts.{Counts}
use Rattle.history_tables.specs.EventsKept.{Holds}
use Rattle.history_tables.specs.JobsKept.{Keeps}
use Rattle.history_tables.specs.Listed.{Lists}
use Rattle.history_tables.specs.Marked.{Marked, closed_mark}
use Rattle.history_tables.specs.Tied.{Tied, Watches}
use Rattle.history_state.specs.declared.state.HistoryState.{HistoryState}
use Rattle.history_state.specs.Kept.{IsStateOf, IsHandledSo}

with-listed : (h : HistoryState) (l : ListedTasks) (port : Opening) (s : State) (listed entries : List Entry) → Lists l listed entries → IsStateOf h port s
    → IsStateOf (record h { listed = l }) port (record s { listed = listed; entries = entries })
with-listed h l port s listed entries lists is = record {
  processes_are = is.processes_are;
  tied = is.tied;
  watches = is.watches;
  reason_is = is.reason_is;
  stopped_is = is.stopped_is;
  holds = is.holds;
  keeps = is.keeps;
  counts_are = is.counts_are;
  lists = lists;
  marked = is.marked;
}

pub lists-one : {F : Type 0} (r : Result (Unit {0}) F) (h : HistoryState) (l : ListedTasks) (from : Sender) (seq : ℕ)
    → OnOk r ((listed entries : List Entry) → Lists h.listed listed entries → has_sender from listed ≡ false → Lists l (listed ++ entry from seq ∷ []) (entry from seq ∷ entries))
    → OnOk r ((port : Opening) (s : State) → keeps_listed s (Listed from seq) ≡ true → IsStateOf h port s → IsStateOf (record h { listed = l }) port (after port s (Listed from seq)))
lists-one (Ok value) h l from seq lists = λ port s keeps is.
    with-listed h l port s (s.listed ++ entry from seq ∷ []) (entry from seq ∷ s.entries)
    (lists s.listed s.entries is.lists (not-true (has_sender from s.listed)
    (and_parts (not (has_entry (entry from seq) s.entries) && nat_le (count_of from s.senders) seq) (not (has_sender from s.listed)) keeps).1)) is
lists-one (Err fault) h l from seq lists = lists

pub resumes-one : (h : HistoryState) (l : ListedTasks) (from : Sender) (seq word : ℕ)
    → ((listed entries : List Entry) → Lists h.listed listed entries → is_first (entry from seq) listed ≡ true → Lists l (without_entry (entry from seq) listed) entries)
    → (port : Opening) (s : State) → keeps_resumed s (Resumed from seq word) ≡ true → IsStateOf h port s → IsStateOf (record h { listed = l }) port (after port s (Resumed from seq word))
resumes-one h l from seq word lists port s keeps is =
    with-listed h l port s (without_entry (entry from seq) s.listed) s.entries
    (lists s.listed s.entries is.lists (and_parts (is_first (entry from seq) s.listed) (not (is_open s) || not (is_busy s.marks || is_queue_busy word)) keeps).0) is

pub marks-one : (h : HistoryState) (m : PortMarks) (kind : MarkKind)
    → ((marks due : List MarkKind) → Marked h.marks marks due → is_due kind due ≡ true → Marked m (kind ∷ marks) (drop 1 due))
    → (port : Opening) (s : State) → is_due kind s.due ≡ true → IsStateOf h port s → IsStateOf (record h { marks = m }) port (after port s (Mark kind))
marks-one h m kind marked port s due is = record {
  processes_are = is.processes_are;
  tied = is.tied;
  watches = is.watches;
  reason_is = is.reason_is;
  stopped_is = is.stopped_is;
  holds = is.holds;
  keeps = is.keeps;
  counts_are = is.counts_are;
  lists = is.lists;
  marked = marked s.marks s.due is.marked due;
}

closed-mark : (r : Option (List ℕ)) → closed_mark (is_some r) ≡ closed_marks r
closed-mark None = refl
closed-mark (Some r) = refl

-- the state after a handled task
pub handled-state : (port : Opening) (s : State) (t : Taken) (from : Sender) (signal : Signal) (effects : List Effect) (reason : Option (List ℕ)) (stopped : Bool) (h new : HistoryState)
    → IsHandledSo from signal effects reason stopped port s t → IsStateOf h port s
    → new.processes ≡ h.processes
    → Tied new.ties (if is_some reason then untied (tied port s.ties from signal) else tied port s.ties from signal)
    → Watches new.watched (watched_by effects s.watched)
    → new.reason ≡ first_reason h.reason reason
    → new.stopped ≡ (h.stopped || stopped)
    → Holds new.events (events_after signal effects (is_some new.reason) stopped s.events)
    → Keeps new.jobs (s.jobs ++ submitted_by effects) (done_by signal s.done)
    → Counts new.counts (from ∷ s.senders)
    → Lists new.listed s.listed s.entries
    → Marked new.marks s.marks (busy_marks (is_busy s.marks) (busy_after (is_busy s.marks) effects) ++ closed_mark (is_some reason))
    → IsStateOf new port (after_handled port s t)
handled-state port s t from signal effects reason stopped h new so is processes ties watches why halted events jobs counts listed marks =
    let now : new.reason ≡ first_reason s.reason (closing_reason s t) = why ∙ (ap (λ r. first_reason r reason) is.reason_is ∙ ap (first_reason s.reason) so.closes) in
    record {
      processes_are = processes ∙ is.processes_are;
      tied = subst (λ r. Tied new.ties (if is_some r then untied (tied port s.ties t.from t.task.signal) else tied port s.ties t.from t.task.signal)) so.closes
          (subst (λ f. Tied new.ties (if is_some reason then untied (tied port s.ties f t.task.signal) else tied port s.ties f t.task.signal)) (sym so.sender)
          (subst (λ x. Tied new.ties (if is_some reason then untied (tied port s.ties from x) else tied port s.ties from x)) (sym so.signal_is) ties));
      watches = subst (λ es. Watches new.watched (watched_by es s.watched)) (sym so.effects_are) watches;
      reason_is = now;
      stopped_is = halted ∙ (ap (λ b. b || stopped) is.stopped_is ∙ ap (λ b. s.stopped || b) so.stops_it);
      holds = subst (λ b. Holds new.events (events_after t.task.signal t.effects (is_some (first_reason s.reason (closing_reason s t))) b s.events)) so.stops_it
          (subst (λ r. Holds new.events (events_after t.task.signal t.effects (is_some r) stopped s.events)) now
          (subst (λ x. Holds new.events (events_after x t.effects (is_some new.reason) stopped s.events)) (sym so.signal_is)
          (subst (λ es. Holds new.events (events_after signal es (is_some new.reason) stopped s.events)) (sym so.effects_are) events)));
      keeps = subst (λ x. Keeps new.jobs (s.jobs ++ submitted_by t.effects) (done_by x s.done)) (sym so.signal_is)
          (subst (λ es. Keeps new.jobs (s.jobs ++ submitted_by es) (done_by signal s.done)) (sym so.effects_are) jobs);
      counts_are = subst (λ f. Counts new.counts (f ∷ s.senders)) (sym so.sender) counts;
      lists = listed;
      marked = subst (λ ms. Marked new.marks s.marks (busy_marks (is_busy s.marks) (busy_after (is_busy s.marks) t.effects) ++ ms)) (closed-mark reason ∙ ap closed_marks so.closes)
          (subst (λ es. Marked new.marks s.marks (busy_marks (is_busy s.marks) (busy_after (is_busy s.marks) es) ++ closed_mark (is_some reason))) (sym so.effects_are) marks);
    }

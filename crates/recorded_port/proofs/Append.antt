-- A history stays lawful, and what the port did stays what it says, with each kind of row.
use Rattle.std.proofs.Common.{◌≡◌, ℕ, ◌==◌, ◌≤◌, map, Bool, true, false, ◌&&◌, List, [], ◌∷◌, ◌++◌, length, drop, refl, sym, ap, ◌∙◌, subst, arith}
use Rattle.std.specs.Prelude.{All, Contains, not, reverse, nat_le}
use Rattle.std.proofs.lemmas.List.{append-nil, reverse-append}
use Rattle.std.proofs.lemmas.List.Elements.{All-cons, All-weaker, Contains-append_left}
use Rattle.port_words.specs.busy.Known.{PortKnown}
use Rattle.port_words.specs.declared.busy.view.AddName.{AddName}
use Rattle.port_model.specs.port_signal.declared.mark.MarkKind.{MarkKind}
use Rattle.port_model.specs.port_signal.declared.mark.MarkKind.TheVariants.{Busy, Free, Closed}
use Rattle.port_model.specs.declared.row.Row.{Row}
use Rattle.port_model.specs.declared.row.Row.TheVariants.{Handled, Late, Listed, Resumed, Mark}
use Rattle.port_model.specs.declared.signal.Sender.{Sender}
use Rattle.port_model.specs.declared.signal.Sender.TheVariants.{Process}
use Rattle.port_model.specs.Tasks.{TaskView}
use Rattle.port_lanes.specs.port_history.Laws.{is_next, is_listed_right, waits_where_busy, count_of, may_send}
use Rattle.port_lanes.specs.port_history.Mail.{handled_mail, row_mail}
use Rattle.port_lanes.specs.port_history.Marks.{is_busy, is_due, none_due, busy_after}
use Rattle.port_lanes.specs.port_history.Opening.{Opening, taken_of}
use Rattle.port_lanes.specs.port_history.State.{state, after, closing_reason}
use Rattle.port_lanes.specs.port_history.Suspension.{entry, has_entry, has_sender, is_first, without_entry}
use Rattle.port_mail.specs.Ends.{Posts}
use Rattle.served_port.specs.port_state.declared.served.Served.{Served}
use Rattle.port_suspension.specs.Listed.{AgreesListed}
use Rattle.served_port.specs.View.{ServedView, IsAt}
use Rattle.served_port.specs.Outcomes.{is_handled, IsHandledRow, IsLateRow}
use Rattle.served_port.proofs.Rows.{listed-at, resumed-at}
use Rattle.recorded_port.specs.Asks.{GaveJobs, asks, row_asks, removals, command_sizes, resumed_words}
use Rattle.recorded_port.specs.Resuming.{may_go}
use Rattle.recorded_port.specs.View.{RecordedView, Records, IsChange, CanChange, removed_sizes, stat_mark}
use Rattle.recorded_port.proofs.RowParts.{HasMail, mail-sent, mail-silent, jobs-given, jobs-kept, change-of-row, change-of-mark, stat-marks-more}

pub rows-more : (rows : List Row) (row : Row) → reverse (rows ++ row ∷ []) ≡ row ∷ reverse rows
rows-more rows row = reverse-append rows (row ∷ [])

and-true : (a b : Bool) → a ≡ true → b ≡ true → (a && b) ≡ true
and-true a b e f = rw (e, f) refl

and-second : (a b : Bool) → (a && b) ≡ true → b ≡ true
and-second true b e = e
and-second false b e = absurd cc

none-due-of : (due : List MarkKind) → due ≡ [] → none_due due ≡ true
none-due-of due e = ap none_due e

-- the bytes of a task's command are still in the message queue
left-more : (sizes before more : List ℕ) → sizes ++ [] ≡ before → sizes ++ more ≡ before ++ more
left-more sizes before more e = ap (λ x. x ++ more) (sym (append-nil sizes) ∙ e)

seat-resumed : (rows : List Row) (old new : PortKnown) → new ≡ old → All (λ word. Contains old.known.words word) (resumed_words rows) → All (λ word. Contains new.known.words word) (resumed_words rows)
seat-resumed rows old new e found = subst (λ (x : PortKnown). All (λ word. Contains x.known.words word) (resumed_words rows)) (sym e) found

-- the words that the port found before are still among those that it found
pub still-found : (words old more : List ℕ) → All (λ word. Contains old word) words → All (λ word. Contains (old ++ more) word) words
still-found words old more found = All-weaker (λ word. Contains old word) (λ word. Contains (old ++ more) word) (λ word at. Contains-append_left old more word at) words found

-- A handled task

pub handled-row : (port : Opening) (rows : List Row) (old new : RecordedView) (mid : ServedView) (from : Sender) (seq : ℕ) (task : TaskView) (made : Served)
    → Records port rows old [] → (state port rows).due ≡ []
    → IsHandledRow port (state port rows) from seq task made old.port mid
    → is_next (state port rows) from seq task.signal ≡ true
    → (is_handled (state port rows) from task.signal ≡ true → (waits_where_busy task && is_busy (state port rows).marks) ≡ false)
    → is_listed_right (state port rows) from seq task ≡ true
    → new.port ≡ mid → new.suspended ≡ old.suspended → new.seat ≡ old.seat
    → Posts mid.state.links.ties.ended old.ends new.ends (handled_mail port (state port rows) (taken_of from seq task made.outside made.effects))
    → Records port (Handled from seq task made.outside made.effects ∷ rows) new (command_sizes task.signal)
handled-row port rows old new mid from seq task made before settled row next free right p s w posts =
    let st = state port rows in
    let t = taken_of from seq task made.outside made.effects in
    let keeps = row.keeps (and-second (seq == count_of from st.senders) (may_send from task.signal) next) in
    record {
      at = subst (λ x. IsAt x port (after port st (Handled from seq task made.outside made.effects))) (sym p) row.at;
      lawful = (
        record {
          order = next;
          lifetime = keeps.lifetime;
          busy = ap not (free row.handled);
          effects = keeps.effects;
          marks = none-due-of st.due settled;
          listed = right;
          resumed = refl;
          ready = keeps.ready;
          jobs = keeps.jobs;
        },
        before.lawful,
      );
      places = ap (λ x. x.places) s ∙ before.places;
      listed = subst (λ x. AgreesListed x st.listed) (sym s) before.listed;
      mail = mail-sent port rows (Handled from seq task made.outside made.effects) old.ends new.ends mid.state.links.ties.ended before.mail
          (ap (λ x. x.ended) row.at.state.ties) posts;
      asks = ap (λ (x : ServedView). x.events.asks.sent) p ∙ (row.asks ∙ ap (λ x. x ++ row_asks port st (Handled from seq task made.outside made.effects)) before.asks);
      jobs = subst (λ (x : ServedView). GaveJobs port (Handled from seq task made.outside made.effects ∷ rows) x.jobs.lanes) (sym p) (jobs-given port rows (Handled from seq task made.outside made.effects) made.effects old.port.jobs.lanes mid.jobs.lanes before.jobs row.jobs refl);
      marks = ap (λ (x : PortKnown). x.known.marks) w ∙ before.marks;
      change = change-of-row (is_busy st.marks) (busy_after (is_busy st.marks) made.effects) (closing_reason st t);
      removed = ap (λ (x : PortKnown). removed_sizes x ++ command_sizes task.signal) w ∙ left-more (removed_sizes old.seat) (removals rows) (command_sizes task.signal) before.removed;
      resumed = seat-resumed rows old.seat new.seat w before.resumed;
      events = before.events;
    }

-- A late one

pub late-row : (port : Opening) (rows : List Row) (old new : RecordedView) (mid : ServedView) (from : Sender) (seq : ℕ) (task : TaskView)
    → Records port rows old [] → (state port rows).due ≡ []
    → IsLateRow port (state port rows) from seq task old.port mid
    → is_next (state port rows) from seq task.signal ≡ true
    → is_listed_right (state port rows) from seq task ≡ true
    → new.port ≡ mid → new.suspended ≡ old.suspended → new.seat ≡ old.seat
    → Posts mid.state.links.ties.ended old.ends new.ends (row_mail port (state port rows) (Late from seq task))
    → Records port (Late from seq task ∷ rows) new (command_sizes task.signal)
late-row port rows old new mid from seq task before settled row next right p s w posts =
    let st = state port rows in
    let keeps = row.keeps (and-second (seq == count_of from st.senders) (may_send from task.signal) next) in
    record {
      at = subst (λ x. IsAt x port (after port st (Late from seq task))) (sym p) row.at;
      lawful = (
        record {
          order = next;
          lifetime = keeps.lifetime;
          busy = refl;
          effects = refl;
          marks = none-due-of st.due settled;
          listed = right;
          resumed = refl;
          ready = keeps.ready;
          jobs = keeps.jobs;
        },
        before.lawful,
      );
      places = ap (λ x. x.places) s ∙ before.places;
      listed = subst (λ x. AgreesListed x st.listed) (sym s) before.listed;
      mail = mail-sent port rows (Late from seq task) old.ends new.ends mid.state.links.ties.ended before.mail (ap (λ x. x.ended) row.at.state.ties) posts;
      asks = ap (λ (x : ServedView). x.events.asks.sent) p ∙ (ap (λ x. x.sent) row.asks ∙ (before.asks ∙ sym (append-nil (asks port rows))));
      jobs = jobs-kept port rows (Late from seq task) old.port.jobs.lanes new.port.jobs.lanes before.jobs (ap (λ (x : ServedView). x.jobs.lanes) p ∙ row.jobs) refl;
      marks = ap (λ (x : PortKnown). x.known.marks) w ∙ before.marks;
      change = before.change;
      removed = ap (λ (x : PortKnown). removed_sizes x ++ command_sizes task.signal) w ∙ left-more (removed_sizes old.seat) (removals rows) (command_sizes task.signal) before.removed;
      resumed = seat-resumed rows old.seat new.seat w before.resumed;
      events = before.events;
    }

-- A mark

pub due-first : (kind : MarkKind) (due : List MarkKind) (busy : Bool) → is_due kind due ≡ true → IsChange busy due → CanChange kind busy
due-first Busy [] busy e c = absurd cc
due-first Busy (Busy ∷ due) busy e c = c
due-first Busy (Free ∷ due) busy e c = absurd cc
due-first Busy (Closed ∷ due) busy e c = absurd cc
due-first Free [] busy e c = absurd cc
due-first Free (Busy ∷ due) busy e c = absurd cc
due-first Free (Free ∷ due) busy e c = c
due-first Free (Closed ∷ due) busy e c = absurd cc
due-first Closed due busy e c = tt

pub due-kind : (kind : MarkKind) (due : List MarkKind) → is_due kind due ≡ true → due ≡ kind ∷ drop 1 due
due-kind Busy [] e = absurd cc
due-kind Busy (Busy ∷ due) e = refl
due-kind Busy (Free ∷ due) e = absurd cc
due-kind Busy (Closed ∷ due) e = absurd cc
due-kind Free [] e = absurd cc
due-kind Free (Busy ∷ due) e = absurd cc
due-kind Free (Free ∷ due) e = refl
due-kind Free (Closed ∷ due) e = absurd cc
due-kind Closed [] e = absurd cc
due-kind Closed (Busy ∷ due) e = absurd cc
due-kind Closed (Free ∷ due) e = absurd cc
due-kind Closed (Closed ∷ due) e = refl

pub mark-row : (port : Opening) (rows : List Row) (old new : RecordedView) (mid : ServedView) (kind : MarkKind) (left : List ℕ)
    → Records port rows old left → is_due kind (state port rows).due ≡ true → IsAt mid port (after port (state port rows) (Mark kind))
    → mid.events ≡ old.port.events → mid.jobs ≡ old.port.jobs
    → new.port ≡ mid → new.suspended ≡ old.suspended → new.ends ≡ old.ends
    → new.seat.known.marks ≡ old.seat.known.marks ++ stat_mark kind ∷ [] → new.seat.known.removed ≡ old.seat.known.removed → new.seat.known.words ≡ old.seat.known.words
    → Records port (Mark kind ∷ rows) new left
mark-row port rows old new mid kind left before due at ev jb p s e marks removed words =
    let st = state port rows in
    record {
      at = subst (λ x. IsAt x port (after port st (Mark kind))) (sym p) at;
      lawful = (record { order = refl; lifetime = refl; busy = refl; effects = refl; marks = due; listed = refl; resumed = refl; ready = refl; jobs = refl }, before.lawful);
      places = ap (λ x. x.places) s ∙ before.places;
      listed = subst (λ x. AgreesListed x st.listed) (sym s) before.listed;
      mail = mail-silent port rows (Mark kind) new.ends refl (subst (λ x. HasMail port rows x) (sym e) before.mail);
      asks = ap (λ (x : ServedView). x.events.asks.sent) p ∙ (ap (λ x. x.asks.sent) ev ∙ (before.asks ∙ sym (append-nil (asks port rows))));
      jobs = jobs-kept port rows (Mark kind) old.port.jobs.lanes new.port.jobs.lanes before.jobs (ap (λ (x : ServedView). x.jobs.lanes) p ∙ ap (λ x. x.lanes) jb) refl;
      marks = marks ∙ (ap (λ x. x ++ stat_mark kind ∷ []) before.marks ∙ sym (stat-marks-more kind st.marks));
      change = subst (λ x. IsChange (is_busy (kind ∷ st.marks)) (drop 1 x)) before.at.state.due (change-of-mark old.port.state.change old.port.state.closes (is_busy (kind ∷ st.marks)));
      removed = ap (λ x. map (λ (n : AddName). n.size) x ++ left) removed ∙ (before.removed ∙ sym (append-nil (removals rows)));
      resumed = subst (λ x. All (λ word. Contains x word) (resumed_words rows)) (sym words) before.resumed;
      events = before.events;
    }

-- A sender that is listed, and one that is resumed

pub listed-row : (port : Opening) (rows : List Row) (old new : RecordedView) (process seq : ℕ)
    → Records port rows old [] → (state port rows).due ≡ []
    → has_entry (entry (Process process) seq) (state port rows).entries ≡ false → nat_le (count_of (Process process) (state port rows).senders) seq ≡ true
    → has_sender (Process process) (state port rows).listed ≡ false
    → AgreesListed new.suspended ((state port rows).listed ++ entry (Process process) seq ∷ []) → new.suspended.places ≡ old.suspended.places
    → new.port ≡ old.port → new.ends ≡ old.ends → new.seat ≡ old.seat
    → Records port (Listed (Process process) seq ∷ rows) new []
listed-row port rows old new process seq before settled fresh later alone listed places p e w =
    let st = state port rows in
    record {
      at = subst (λ x. IsAt x port (after port st (Listed (Process process) seq))) (sym p) (listed-at old.port port st (Process process) seq before.at);
      lawful = (
        record {
          order = refl;
          lifetime = refl;
          busy = refl;
          effects = refl;
          marks = none-due-of st.due settled;
          listed = and-true _ _ (and-true _ _ (ap not fresh) later) (ap not alone);
          resumed = refl;
          ready = refl;
          jobs = refl;
        },
        before.lawful,
      );
      places = places ∙ before.places;
      listed = listed;
      mail = mail-silent port rows (Listed (Process process) seq) new.ends refl (subst (λ x. HasMail port rows x) (sym e) before.mail);
      asks = ap (λ (x : ServedView). x.events.asks.sent) p ∙ (before.asks ∙ sym (append-nil (asks port rows)));
      jobs = jobs-kept port rows (Listed (Process process) seq) old.port.jobs.lanes new.port.jobs.lanes before.jobs (ap (λ (x : ServedView). x.jobs.lanes) p) refl;
      marks = ap (λ (x : PortKnown). x.known.marks) w ∙ before.marks;
      change = before.change;
      removed = ap (λ (x : PortKnown). removed_sizes x ++ []) w ∙ (before.removed ∙ sym (append-nil (removals rows)));
      resumed = seat-resumed rows old.seat new.seat w before.resumed;
      events = before.events;
    }

pub resumed-row : (port : Opening) (rows : List Row) (old new : RecordedView) (process seq word : ℕ)
    → Records port rows old [] → (state port rows).due ≡ []
    → is_first (entry (Process process) seq) (state port rows).listed ≡ true → may_go (state port rows) word ≡ true → Contains old.seat.known.words word
    → AgreesListed new.suspended (without_entry (entry (Process process) seq) (state port rows).listed) → new.suspended.places ≡ old.suspended.places
    → new.port ≡ old.port → new.seat ≡ old.seat
    → Posts old.port.state.links.ties.ended old.ends new.ends (row_mail port (state port rows) (Resumed (Process process) seq word))
    → Records port (Resumed (Process process) seq word ∷ rows) new []
resumed-row port rows old new process seq word before settled first may found listed places p w posts =
    let st = state port rows in
    record {
      at = subst (λ x. IsAt x port (after port st (Resumed (Process process) seq word))) (sym p) (resumed-at old.port port st (Process process) seq word before.at);
      lawful = (
        record {
          order = refl;
          lifetime = refl;
          busy = refl;
          effects = refl;
          marks = none-due-of st.due settled;
          listed = refl;
          resumed = and-true _ _ first may;
          ready = refl;
          jobs = refl;
        },
        before.lawful,
      );
      places = places ∙ before.places;
      listed = listed;
      mail = mail-sent port rows (Resumed (Process process) seq word) old.ends new.ends old.port.state.links.ties.ended before.mail (ap (λ x. x.ended) before.at.state.ties) posts;
      asks = ap (λ (x : ServedView). x.events.asks.sent) p ∙ (before.asks ∙ sym (append-nil (asks port rows)));
      jobs = jobs-kept port rows (Resumed (Process process) seq word) old.port.jobs.lanes new.port.jobs.lanes before.jobs (ap (λ (x : ServedView). x.jobs.lanes) p) refl;
      marks = ap (λ (x : PortKnown). x.known.marks) w ∙ before.marks;
      change = before.change;
      removed = ap (λ (x : PortKnown). removed_sizes x ++ []) w ∙ (before.removed ∙ sym (append-nil (removals rows)));
      resumed = All-cons (λ word. Contains new.seat.known.words word) word (resumed_words rows) (subst (λ (x : PortKnown). Contains x.known.words word) (sym w) found) (seat-resumed rows old.seat new.seat w before.resumed);
      events = before.events;
    }

-- there are no more marks than rows
pub marks-below : (port : Opening) (rows : List Row) → length (state port rows).marks ≤ length rows
marks-below port [] = omega arith
marks-below port (Handled from seq task outside effects ∷ rows) = let n = marks-below port rows in omega arith
marks-below port (Late from seq task ∷ rows) = let n = marks-below port rows in omega arith
marks-below port (Listed from seq ∷ rows) = let n = marks-below port rows in omega arith
marks-below port (Resumed from seq word ∷ rows) = let n = marks-below port rows in omega arith
marks-below port (Mark kind ∷ rows) = let n = marks-below port rows in omega arith

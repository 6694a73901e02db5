-- The row of a task, and the marks behind it.
use Rattle.std.proofs.Common.{◌≡◌, ℕ, Bool, true, false, List, [], ◌∷◌, ◌++◌, drop, length, true≢false, refl, sym, ap, ◌∙◌, subst, inl, inr}
use Rattle.std.specs.Prelude.{All, Contains, Option, Some, None, reverse, if◌then◌else◌}
use Rattle.std.proofs.lemmas.List.{append-nil, append_assoc}
use Rattle.port_model.specs.port_signal.declared.mark.MarkKind.{MarkKind}
use Rattle.port_lanes.specs.Parcels.{IsParcel}
use Rattle.port_words.specs.busy.Known.{PortKnown, WeightKnown, port_known}
use Rattle.port_words.specs.busy.Steps.{marked, port_heard}
use Rattle.port_model.specs.declared.row.Row.{Row}
use Rattle.port_model.specs.declared.row.Row.TheVariants.{Handled, Late, Resumed, Mark}
use Rattle.port_model.specs.declared.signal.Sender.{Sender}
use Rattle.port_model.specs.Signals.{data_size}
use Rattle.port_model.specs.Tasks.{TaskView}
use Rattle.port_mail.specs.Ends.{Posts}
use Rattle.port_lanes.specs.port_history.Mail.{handled_mail, row_mail}
use Rattle.port_lanes.specs.port_history.Opening.{taken_of}
use Rattle.port_lanes.specs.port_history.Marks.{is_due}
use Rattle.port_lanes.specs.port_history.State.{State, state, after}
use Rattle.port_lanes.specs.port_history.Suspension.{Entry, entry, is_first, without_entry}
use Rattle.port_suspension.specs.Listed.{AgreesListed}
use Rattle.port_model.specs.declared.signal.Sender.TheVariants.{Process}
use Rattle.served_port.specs.port_state.declared.served.Served.{Served}
use Rattle.served_port.specs.View.{ServedView, IsAt}
use Rattle.served_port.specs.Outcomes.{IsHandledRow, IsLateRow}
use Rattle.recorded_port.specs.Asks.{GaveJobs, command_sizes, resumed_words}
use Rattle.recorded_port.specs.Resuming.{ResumesFirst, may_go, resumed_rows}
use Rattle.recorded_port.specs.View.{RecordedView, Records, IsRecorded, IsSettled, removed_sizes, stat_mark, state_of}
use Rattle.recorded_port.specs.Taking.{FoundMore, MayWrite, WritesTask, WritesMark, WritesNext, WritesMarks, sizes_of}
use Rattle.recorded_port.proofs.Append.{due-kind, handled-row, late-row, mark-row, resumed-row, still-found}
use Rattle.recorded_port.proofs.RowParts.{HasMail}
use Rattle.recorded_port.proofs.Settled.{recorded-more, settled-more, state-more}

-- a view that differs from another in its port alone
pub record Between (old mid : RecordedView) (port : ServedView) : Type 0 where
  pub opening : mid.opening ≡ old.opening
  pub rows : mid.rows ≡ old.rows
  pub room : mid.room ≡ old.room
  pub port_is : mid.port ≡ port
  pub ends : mid.ends ≡ old.ends
  pub seat : mid.seat ≡ old.seat
  pub suspended : mid.suspended ≡ old.suspended

pub handled-task : (old mid new : RecordedView) (port : ServedView) (from : Sender) (seq : ℕ) (task : TaskView) (made : Served)
    → IsSettled old → MayWrite old from seq task → IsHandledRow old.opening (state_of old) from seq task made old.port port → Between old mid port
    → new ≡ record mid { rows = mid.rows ++ Handled from seq task made.outside made.effects ∷ []; room = new.room; ends = new.ends }
    → Posts mid.port.state.links.ties.ended mid.ends new.ends (handled_mail mid.opening (state_of old) (taken_of from seq task made.outside made.effects))
    → WritesTask old new from seq task
handled-task old mid new port from seq task made settled may row b e posts =
    let h = Handled from seq task made.outside made.effects in
    let t = taken_of from seq task made.outside made.effects in
    let rows = ap (λ (v : RecordedView). v.rows) e ∙ ap (λ x. x ++ h ∷ []) b.rows in
    let sent = subst (λ x. Posts port.state.links.ties.ended x new.ends (handled_mail old.opening (state_of old) t)) b.ends
    (subst (λ (x : ServedView). Posts x.state.links.ties.ended mid.ends new.ends (handled_mail old.opening (state_of old) t)) b.port_is
    (subst (λ x. Posts mid.port.state.links.ties.ended mid.ends new.ends (handled_mail x (state_of old) t)) b.opening posts)) in
    record {
      row = h;
      tells = inr (made.outside, made.effects, refl);
      rows = rows;
      quiet = λ late. absurd (true≢false (sym row.handled ∙ late));
      recorded = recorded-more old new h (command_sizes task.signal) (ap (λ (v : RecordedView). v.opening) e ∙ b.opening) rows
          (handled-row old.opening (reverse old.rows) old new port from seq task made settled.recorded settled.none_due row may.next may.free may.listed
          (ap (λ (v : RecordedView). v.port) e ∙ b.port_is) (ap (λ (v : RecordedView). v.suspended) e ∙ b.suspended) (ap (λ (v : RecordedView). v.seat) e ∙ b.seat) sent);
      suspended = ap (λ (v : RecordedView). v.suspended) e ∙ b.suspended;
      seat = ap (λ (v : RecordedView). v.seat) e ∙ b.seat;
    }

pub late-task : (old mid new : RecordedView) (port : ServedView) (from : Sender) (seq : ℕ) (task : TaskView)
    → IsSettled old → MayWrite old from seq task → IsLateRow old.opening (state_of old) from seq task old.port port → Between old mid port
    → new ≡ record mid { rows = mid.rows ++ Late from seq task ∷ []; room = new.room; ends = new.ends }
    → Posts mid.port.state.links.ties.ended mid.ends new.ends (row_mail mid.opening (state_of old) (Late from seq task))
    → WritesTask old new from seq task
late-task old mid new port from seq task settled may row b e posts =
    let h = Late from seq task in
    let rows = ap (λ (v : RecordedView). v.rows) e ∙ ap (λ x. x ++ h ∷ []) b.rows in
    let sent = subst (λ x. Posts port.state.links.ties.ended x new.ends (row_mail old.opening (state_of old) h)) b.ends
    (subst (λ (x : ServedView). Posts x.state.links.ties.ended mid.ends new.ends (row_mail old.opening (state_of old) h)) b.port_is
    (subst (λ x. Posts mid.port.state.links.ties.ended mid.ends new.ends (row_mail x (state_of old) h)) b.opening posts)) in
    record {
      row = h;
      tells = inl refl;
      rows = rows;
      quiet = λ late. ap (λ (x : State). x.due) (state-more old new h (ap (λ (v : RecordedView). v.opening) e ∙ b.opening) rows) ∙ settled.none_due;
      recorded = recorded-more old new h (command_sizes task.signal) (ap (λ (v : RecordedView). v.opening) e ∙ b.opening) rows
          (late-row old.opening (reverse old.rows) old new port from seq task settled.recorded settled.none_due row may.next may.listed
          (ap (λ (v : RecordedView). v.port) e ∙ b.port_is) (ap (λ (v : RecordedView). v.suspended) e ∙ b.suspended) (ap (λ (v : RecordedView). v.seat) e ∙ b.seat) sent);
      suspended = ap (λ (v : RecordedView). v.suspended) e ∙ b.suspended;
      seat = ap (λ (v : RecordedView). v.seat) e ∙ b.seat;
    }

pub written-two : (b : Bool) (old mid new : RecordedView) (left : List ℕ) → drop 1 (drop 1 (state_of old).due) ≡ [] → WritesMark old mid left → WritesNext b mid new left
    → WritesMarks old new left
written-two true old mid new left most first second =
    let two : (state_of old).due ≡ first.kind ∷ second.kind ∷ (state_of new).due = first.due ∙ ap (λ x. first.kind ∷ x) second.due in
    let none : (state_of new).due ≡ [] = sym (ap (λ x. drop 1 (drop 1 x)) two) ∙ most in
    record {
      recorded = second.recorded;
      none_due = none;
      marks = first.kind ∷ second.kind ∷ [];
      many = sym (ap length (two ∙ ap (λ x. first.kind ∷ second.kind ∷ x) none));
      rows = second.rows ∙ (ap (λ x. x ++ Mark second.kind ∷ []) first.rows ∙ append_assoc old.rows (Mark first.kind ∷ []) (Mark second.kind ∷ []));
      suspended = second.suspended ∙ first.suspended;
    }
written-two false old mid new left most first second = record {
  recorded = subst (λ v. IsRecorded v left) (sym second.1) first.recorded;
  none_due = ap (λ (v : RecordedView). (state_of v).due) second.1 ∙ second.0;
  marks = first.kind ∷ [];
  many = sym (ap length (first.due ∙ ap (λ x. first.kind ∷ x) second.0));
  rows = ap (λ (v : RecordedView). v.rows) second.1 ∙ first.rows;
  suspended = ap (λ (v : RecordedView). v.suspended) second.1 ∙ first.suspended;
}

-- none was due
pub written-none : (old new : RecordedView) (left : List ℕ) → IsRecorded old left → WritesNext false old new left → WritesMarks old new left
written-none old new left recorded none = record {
  recorded = subst (λ v. IsRecorded v left) (sym none.1) recorded;
  none_due = ap (λ (v : RecordedView). (state_of v).due) none.1 ∙ none.0;
  marks = [];
  many = sym (ap length none.0);
  rows = ap (λ (v : RecordedView). v.rows) none.1 ∙ sym (append-nil old.rows);
  suspended = ap (λ (v : RecordedView). v.suspended) none.1;
}

pub marked-row : (old mid new : RecordedView) (port : ServedView) (kind : MarkKind) (left : List ℕ) → IsRecorded old left → is_due kind (state_of old).due ≡ true
    → IsAt port old.opening (after old.opening (state_of old) (Mark kind)) → port.events ≡ old.port.events → port.jobs ≡ old.port.jobs → Between old mid port
    → new ≡ record mid { rows = mid.rows ++ Mark kind ∷ []; room = new.room; seat = port_known mid.seat.table (marked mid.seat.known (stat_mark kind)) }
    → WritesMark old new left
marked-row old mid new port kind left recorded due at ev jb b e =
    let rows = ap (λ (v : RecordedView). v.rows) e ∙ ap (λ x. x ++ Mark kind ∷ []) b.rows in
    let opening = ap (λ (v : RecordedView). v.opening) e ∙ b.opening in
    record {
      kind = kind;
      recorded = recorded-more old new (Mark kind) left opening rows
          (mark-row old.opening (reverse old.rows) old new port kind left recorded due at ev jb (ap (λ (v : RecordedView). v.port) e ∙ b.port_is)
          (ap (λ (v : RecordedView). v.suspended) e ∙ b.suspended) (ap (λ (v : RecordedView). v.ends) e ∙ b.ends)
          (ap (λ (v : RecordedView). v.seat.known.marks) e ∙ ap (λ (x : PortKnown). x.known.marks ++ stat_mark kind ∷ []) b.seat)
          (ap (λ (v : RecordedView). v.seat.known.removed) e ∙ ap (λ (x : PortKnown). x.known.removed) b.seat)
          (ap (λ (v : RecordedView). v.seat.known.words) e ∙ ap (λ (x : PortKnown). x.known.words) b.seat));
      due = due-kind kind (state_of old).due due ∙ sym (ap (λ (x : State). kind ∷ x.due) (state-more old new (Mark kind) opening rows));
      rows = rows;
      suspended = ap (λ (v : RecordedView). v.suspended) e ∙ b.suspended;
    }

-- a view that differs from another in its suspended senders alone
pub record BetweenLists (old mid : RecordedView) : Type 0 where
  pub opening : mid.opening ≡ old.opening
  pub rows : mid.rows ≡ old.rows
  pub room : mid.room ≡ old.room
  pub port : mid.port ≡ old.port
  pub ends : mid.ends ≡ old.ends
  pub seat : mid.seat ≡ old.seat
  pub places : mid.suspended.places ≡ old.suspended.places

-- a sender that was resumed
pub record WasResumed (old new : RecordedView) (word : ℕ) : Type 0 where
  pub settled : IsSettled new
  pub resumes : ResumesFirst old new word

pub resumed-first : (old mid new : RecordedView) (process seq word : ℕ) → IsSettled old → is_first (entry (Process process) seq) (state_of old).listed ≡ true
    → may_go (state_of old) word ≡ true → Contains old.seat.known.words word → (state_of old).listed ≡ entry (Process process) seq ∷ without_entry (entry (Process process) seq) (state_of old).listed
    → AgreesListed mid.suspended (without_entry (entry (Process process) seq) (state_of old).listed) → BetweenLists old mid
    → new ≡ record mid { rows = mid.rows ++ Resumed (Process process) seq word ∷ []; room = new.room; ends = new.ends }
    → Posts mid.port.state.links.ties.ended mid.ends new.ends (row_mail mid.opening (state_of old) (Resumed (Process process) seq word))
    → WasResumed old new word
resumed-first old mid new process seq word settled first goes found listed agrees b e posts =
    let row = Resumed (Process process) seq word in
    let rows = ap (λ (v : RecordedView). v.rows) e ∙ ap (λ x. x ++ row ∷ []) b.rows in
    let opening = ap (λ (v : RecordedView). v.opening) e ∙ b.opening in
    let suspended = ap (λ (v : RecordedView). v.suspended) e in
    let seat = ap (λ (v : RecordedView). v.seat) e ∙ b.seat in
    let state = state-more old new row opening rows in
    let sent = subst (λ x. Posts old.port.state.links.ties.ended x new.ends (row_mail old.opening (state_of old) row)) b.ends
    (subst (λ (x : ServedView). Posts x.state.links.ties.ended mid.ends new.ends (row_mail old.opening (state_of old) row)) b.port
    (subst (λ x. Posts mid.port.state.links.ties.ended mid.ends new.ends (row_mail x (state_of old) row)) b.opening posts)) in
    record {
      settled = settled-more old new row opening rows
          (resumed-row old.opening (reverse old.rows) old new process seq word settled.recorded settled.none_due first goes found
          (subst (λ x. AgreesListed x (without_entry (entry (Process process) seq) (state_of old).listed)) (sym suspended) agrees)
          (ap (λ x. x.places) suspended ∙ b.places) (ap (λ (v : RecordedView). v.port) e ∙ b.port) seat sent) settled.none_due;
      resumes = record {
        first = entry (Process process) seq;
        listed = listed ∙ ap (λ (x : State). entry (Process process) seq ∷ x.listed) (sym state);
        rows = rows;
        goes = subst (λ x. may_go x word ≡ true) (sym state) goes;
        seat = seat;
      };
    }

-- the rows that come with the first sender and then with the others are those of all
pub resumed-more : (rows more : List Row) (word : ℕ) (listed rest : List Entry) (first : Entry) → listed ≡ first ∷ rest → more ≡ rows ++ Resumed first.from first.seq word ∷ []
    → more ++ resumed_rows word rest ≡ rows ++ resumed_rows word listed
resumed-more rows more word listed rest first e m =
    ap (λ x. x ++ resumed_rows word rest) m
    ∙ (append_assoc rows (Resumed first.from first.seq word ∷ []) (resumed_rows word rest) ∙ ap (λ x. rows ++ resumed_rows word x) (sym e))

-- marks and rows are as they were, the bytes of the commands of `left` were removed, and more words were found
pub settled-seat : (old new : RecordedView) (left : List ℕ) → IsRecorded old left → (state_of old).due ≡ [] → new ≡ record old { seat = new.seat }
    → new.seat.known.marks ≡ old.seat.known.marks → removed_sizes new.seat ≡ removed_sizes old.seat ++ left → FoundMore old.seat new.seat → IsSettled new
settled-seat old new left before due e marks removed found =
    let o = ap (λ (v : RecordedView). v.opening) e in
    let r = ap (λ (v : RecordedView). v.rows) e in
    let p = ap (λ (v : RecordedView). v.port) e in
    let s = ap (λ (v : RecordedView). v.suspended) e in
    record {
      recorded = subst (λ x. Records x (reverse new.rows) new []) (sym o) (subst (λ x. Records old.opening (reverse x) new []) (sym r) (record {
        at = subst (λ x. IsAt x old.opening (state_of old)) (sym p) before.at;
        lawful = before.lawful;
        places = ap (λ x. x.places) s ∙ before.places;
        listed = subst (λ x. AgreesListed x (state_of old).listed) (sym s) before.listed;
        mail = subst (λ x. HasMail old.opening (reverse old.rows) x) (sym (ap (λ (v : RecordedView). v.ends) e)) before.mail;
        asks = ap (λ (x : ServedView). x.events.asks.sent) p ∙ before.asks;
        jobs = subst (λ (x : ServedView). GaveJobs old.opening (reverse old.rows) x.jobs.lanes) (sym p) before.jobs;
        marks = marks ∙ before.marks;
        change = before.change;
        removed = append-nil (removed_sizes new.seat) ∙ (removed ∙ before.removed);
        resumed = subst (λ x. All (λ word. Contains x word) (resumed_words (reverse old.rows))) (sym found.words)
            (still-found (resumed_words (reverse old.rows)) old.seat.known.words found.more before.resumed);
        events = before.events;
      }));
      none_due = ap (λ x. (state x (reverse new.rows)).due) o ∙ (ap (λ x. (state old.opening (reverse x)).due) r ∙ due);
    }

-- a word that was looked at is no part of a history
pub settled-heard : (old new : RecordedView) (seat : PortKnown) (word : ℕ) → IsSettled old → new ≡ record old { seat = new.seat } → seat ≡ old.seat
    → new.seat ≡ port_known seat.table (port_heard seat.known (word ∷ [])) → IsSettled new
settled-heard old new seat word settled e s heard =
    settled-seat old new [] settled.recorded settled.none_due e
    (ap (λ (x : PortKnown). x.known.marks) (heard ∙ ap (λ (x : PortKnown). port_known x.table (port_heard x.known (word ∷ []))) s))
    (ap removed_sizes (heard ∙ ap (λ (x : PortKnown). port_known x.table (port_heard x.known (word ∷ []))) s) ∙ sym (append-nil (removed_sizes old.seat)))
    (record { more = word ∷ []; words = ap (λ (x : PortKnown). x.known.words) (heard ∙ ap (λ (x : PortKnown). port_known x.table (port_heard x.known (word ∷ []))) s) })

-- the weight of a command has the size that is to be removed, and nothing else has one
pub weight-sizes : (weight : Option WeightKnown) (task : TaskView) → IsParcel (record { task = task; weight = weight }) → sizes_of weight ≡ command_sizes task.signal
weight-sizes None task parcel = ap (λ b. if b then data_size task.signal ∷ [] else []) parcel.weighed
weight-sizes (Some weight) task parcel = ap (λ size. size ∷ []) parcel.size ∙ ap (λ b. if b then data_size task.signal ∷ [] else []) parcel.weighed

-- Rows that came behind the others, and a port at its start.
use Rattle.std.proofs.Common.{◌≡◌, ℕ, ◌<◌, ◌≤◌, Option, map, true, List, [], ◌∷◌, ◌++◌, length, length-append, sym, ap, ◌∙◌, subst, arith}
use Rattle.std.specs.Prelude.{All, Contains, reverse, slice_index_or}
use Rattle.std.proofs.lemmas.List.{length-map, length-reverse}
use Rattle.std.proofs.lemmas.List.Elements.{All-nil, All-get_or}
use Rattle.port_driver.specs.driver_model.Calls.{Held, Own}
use Rattle.port_driver.specs.driver_model.Drivers.{read_event_of, write_event_of}
use Rattle.port_driver.specs.driver_model.Programs.{ToldProgram}
use Rattle.port_driver.specs.Context.{Context}
use Rattle.port_driver.specs.Driven.{Stands}
use Rattle.port_words.specs.busy.Stat.{marked_busy}
use Rattle.port_words.specs.busy.Known.{PortKnown}
use Rattle.port_model.specs.port_signal.declared.mark.MarkKind.{MarkKind}
use Rattle.port_model.specs.declared.row.Row.{Row}
use Rattle.port_mail.specs.Ends.{MailEnd}
use Rattle.port_lanes.specs.port_history.Marks.{is_busy, is_due}
use Rattle.port_lanes.specs.port_history.Opening.{Opening}
use Rattle.port_lanes.specs.port_history.State.{State, state, state_at_start}
use Rattle.port_suspension.specs.Listed.{AgreesListed}
use Rattle.served_port.specs.Openings.{IsAtStart}
use Rattle.recorded_port.specs.declared.parts.PortOutlets.{PortOutlets}
use Rattle.port_words.specs.declared.busy.view.AddName.{AddName}
use Rattle.port_model.specs.declared.row.Row.TheVariants.{Resumed}
use Rattle.recorded_port.specs.Asks.{start_asks}
use Rattle.recorded_port.specs.Resuming.{ResumesFirst}
use Rattle.recorded_port.specs.Taking.{UsesRoom}
use Rattle.recorded_port.specs.Openings.{AreUnused}
use Rattle.recorded_port.specs.View.{RecordedView, Records, IsRecorded, IsSettled, CanMark, CanChange, HasEvents, removed_sizes, state_of, stat_mark}
use Rattle.recorded_port.proofs.Append.{rows-more, due-first, marks-below}
use Rattle.recorded_port.proofs.RowParts.{stat-busy}

pub recorded-more : (old new : RecordedView) (row : Row) (left : List ℕ) → new.opening ≡ old.opening → new.rows ≡ old.rows ++ row ∷ []
    → Records old.opening (row ∷ reverse old.rows) new left → IsRecorded new left
recorded-more old new row left o r records =
    subst (λ x. Records x (reverse new.rows) new left) (sym o)
    (subst (λ x. Records old.opening x new left) (sym (ap reverse r ∙ rows-more old.rows row)) records)

pub state-more : (old new : RecordedView) (row : Row) → new.opening ≡ old.opening → new.rows ≡ old.rows ++ row ∷ []
    → state_of new ≡ state old.opening (row ∷ reverse old.rows)
state-more old new row o r = ap (λ x. state x (reverse new.rows)) o ∙ ap (state old.opening) (ap reverse r ∙ rows-more old.rows row)

pub settled-more : (old new : RecordedView) (row : Row) → new.opening ≡ old.opening → new.rows ≡ old.rows ++ row ∷ []
    → Records old.opening (row ∷ reverse old.rows) new [] → (state old.opening (row ∷ reverse old.rows)).due ≡ [] → IsSettled new
settled-more old new row o r records due = record {
  recorded = recorded-more old new row [] o r records;
  none_due = ap (λ (x : State). x.due) (state-more old new row o r) ∙ due;
}

-- the mark that is due may be written
pub can-mark : (old new : RecordedView) (kind : MarkKind) (left : List ℕ) → IsRecorded old left → is_due kind (state_of old).due ≡ true
    → new.seat ≡ old.seat → new.rows ≡ old.rows → CanMark kind new
can-mark old new kind left recorded due w r =
    let below = marks-below old.opening (reverse old.rows) in
    let marks = ap (λ (x : PortKnown). length x.known.marks) w ∙ (ap length recorded.marks
    ∙ (length-map (reverse (state_of old).marks) stat_mark ∙ length-reverse (state_of old).marks)) in
    let rows = length-reverse old.rows in
    let same = ap length r in
    record {
      few = omega (arith);
      changes = subst (λ x. CanChange kind x)
          (sym (ap (λ (x : PortKnown). marked_busy x.known.marks) w ∙ (ap marked_busy recorded.marks ∙ stat-busy (state_of old).marks)))
          (due-first kind (state_of old).due (is_busy (state_of old).marks) due recorded.change);
    }

-- the events that a driver keeps as it stands after its start are those of the opening
pub events-at-start : (port : Opening) (own : Own) (program : Option ToldProgram) (context : Context) → Stands port.kind port.config (state_at_start port).calls own program context
    → port.read ≡ read_event_of own → port.write ≡ write_event_of own → HasEvents port
events-at-start port own program context stands read write =
    let kept = ap (λ (h : Held). h.own) stands.holds in
    record { read = ap read_event_of (sym kept) ∙ sym read; write = ap write_event_of (sym kept) ∙ sym write }

-- a port whose parts are those of its start
no-mail : (ends : List MailEnd) → All (λ (e : MailEnd). e.sent ≡ []) ends → (process : ℕ) (e : MailEnd) → process < length ends → (slice_index_or ends process e).sent ≡ []
no-mail ends all process e within = All-get_or (λ (x : MailEnd). x.sent ≡ []) ends process e within all

pub opened : (v : RecordedView) (port : Opening) (outlets : PortOutlets) → v.opening ≡ port → v.rows ≡ [] → IsAtStart port outlets.ends v.port
    → v.suspended.places ≡ port.processes → AgreesListed v.suspended [] → v.ends ≡ outlets.mailboxes → v.seat ≡ outlets.seat → AreUnused outlets → HasEvents port → IsSettled v
opened v port outlets o r start places listed ends seat unused events = record {
  recorded = subst (λ x. Records x (reverse v.rows) v []) (sym o) (subst (λ x. Records port (reverse x) v []) (sym r) (record {
    at = start.at;
    lawful = tt;
    places = places;
    listed = listed;
    mail = subst (λ x. (process : ℕ) (e : MailEnd) → process < length x → (slice_index_or x process e).sent ≡ []) (sym ends) (no-mail outlets.mailboxes unused.mail);
    asks = start.asks ∙ ap (λ x. x ++ start_asks port) unused.asks;
    jobs = record { start = outlets.ends.pool; jobs = start.jobs.jobs; fresh = unused.jobs; own = start.jobs.are.own; same = start.jobs.are.same; submitted = start.jobs.submitted };
    marks = ap (λ (x : PortKnown). x.known.marks) seat ∙ unused.marks;
    change = tt;
    removed = ap (λ (x : PortKnown). removed_sizes x ++ []) seat ∙ ap (λ x. map (λ (n : AddName). n.size) x ++ []) unused.removed;
    resumed = All-nil (λ word. Contains v.seat.known.words word);
    events = events;
  }));
  none_due = ap (λ x. (state x (reverse v.rows)).due) o ∙ ap (λ x. (state port (reverse x)).due) r;
}

-- the one that is resumed takes the place that there was for it
pub next-room : (old new : RecordedView) (word : ℕ) → ResumesFirst old new word → UsesRoom old new → length (state_of old).listed ≤ old.room → length (state_of new).listed ≤ new.room
next-room old new word first uses enough =
    let listed = ap length first.listed in
    let rows = ap length first.rows ∙ length-append old.rows (Resumed first.first.from first.first.seq word ∷ []) in
    omega (arith, listed, rows, uses, enough)

-- What stays the same of a port whose rows grew.
use Rattle.std.proofs.Common.{◌≡◌, ◌≤◌, ◌+◌, ◌-◌, ◌^◌, ℕ, List, [], ◌∷◌, ◌++◌, refl, ap, ◌∙◌, sym, subst, arith}
use Rattle.std.proofs.lemmas.List.{append-nil}
use Rattle.port_driver.specs.Faults.{failures, failures_in, RisenBy}
use Rattle.port_driver.proofs.Faults.{failures_in-append}
use Rattle.port_model.specs.port_signal.declared.mark.MarkKind.{MarkKind}
use Rattle.port_model.specs.port_signal.declared.outside.Outside.{Outside}
use Rattle.port_model.specs.declared.effect.Effect.{Effect}
use Rattle.port_model.specs.declared.row.Row.{Row}
use Rattle.port_model.specs.declared.row.Row.TheVariants.{Handled, Mark}
use Rattle.port_model.specs.declared.signal.Sender.{Sender}
use Rattle.port_model.specs.Tasks.{TaskView}
use Rattle.port_words.specs.busy.Known.{port_known}
use Rattle.port_words.specs.busy.Steps.{marked}
use Rattle.served_port.specs.View.{ServedView, IsSameServed, end_names}
use Rattle.recorded_port.specs.View.{RecordedView, stat_mark}
use Rattle.recorded_port.specs.Taking.{IsSameRecorded, IsSameSeat}
use Rattle.recorded_port.proofs.Same.{grew-none, grew-one, risen-row, same-trans, seat-refl, served-refl}
use Rattle.recorded_port.proofs.TaskRows.{Between, BetweenLists}

-- the row of a handled task tells the failures that were counted before it was written
risen-handled : (rows : List Row) (from : Sender) (seq : ℕ) (task : TaskView) (outside : List Outside) (effects : List Effect) (first before after : ℕ)
    → RisenBy (failures outside) before after → RisenBy (failures_in rows) first before → RisenBy (failures_in (rows ++ Handled from seq task outside effects ∷ [])) first after
risen-handled rows from seq task outside effects first before after counted risen =
    let e : failures_in (rows ++ Handled from seq task outside effects ∷ []) ≡ failures_in rows + (failures outside + 0) =
    failures_in-append rows (Handled from seq task outside effects ∷ []) in
    omega (arith, e, counted, risen)

-- its driver's count alone may have risen
risen-later : (failed first before after : ℕ) → before ≤ after → RisenBy failed first before → RisenBy failed first after
risen-later failed first before after rises risen = omega (arith, rises, risen)

-- a port that differs in what serves it alone
pub same-between : (old mid : RecordedView) (port : ServedView) → Between old mid port → IsSameServed old.port port → IsSameRecorded old mid
same-between old mid port b s =
    let s' = subst (IsSameServed old.port) (sym b.port_is) s in
    record {
      opening = b.opening;
      rows = record { more = []; rows = b.rows ∙ sym (append-nil old.rows) };
      port = s';
      ends = ap end_names b.ends;
      seat = subst (IsSameSeat old.seat) (sym b.seat) (seat-refl old.seat);
      places = ap (λ x. x.places) b.suspended;
      failed = λ first risen. subst (λ x. RisenBy (failures_in x) first mid.port.state.service.faults) (sym b.rows)
          (risen-later (failures_in old.rows) first old.port.state.service.faults mid.port.state.service.faults s'.faults risen);
    }

-- a handled task came to its row
pub same-handled : (old mid new : RecordedView) (port : ServedView) (from : Sender) (seq : ℕ) (task : TaskView) (outside : List Outside) (effects : List Effect)
    → Between old mid port → IsSameServed old.port port → RisenBy (failures outside) old.port.state.service.faults port.state.service.faults
    → new ≡ record mid { rows = mid.rows ++ Handled from seq task outside effects ∷ []; room = new.room; ends = new.ends } → end_names new.ends ≡ end_names mid.ends
    → IsSameRecorded old new
same-handled old mid new port from seq task outside effects b s counted e names =
    let row = Handled from seq task outside effects in
    let base = same-between old mid port b s in
    let rows : new.rows ≡ old.rows ++ row ∷ [] = ap (λ (v : RecordedView). v.rows) e ∙ ap (λ x. x ++ row ∷ []) b.rows in
    let port_is : new.port ≡ port = ap (λ (v : RecordedView). v.port) e ∙ b.port_is in
    record {
      opening = ap (λ (v : RecordedView). v.opening) e ∙ base.opening;
      rows = record { more = row ∷ []; rows = rows };
      port = subst (IsSameServed old.port) (sym port_is) s;
      ends = names ∙ base.ends;
      seat = subst (IsSameSeat old.seat) (sym (ap (λ (v : RecordedView). v.seat) e)) base.seat;
      places = ap (λ (v : RecordedView). v.suspended.places) e ∙ base.places;
      failed = λ first risen. subst (λ x. RisenBy (failures_in x) first new.port.state.service.faults) (sym rows)
          (subst (λ (x : ServedView). RisenBy (failures_in (old.rows ++ row ∷ [])) first x.state.service.faults) (sym port_is)
          (risen-handled old.rows from seq task outside effects first old.port.state.service.faults port.state.service.faults counted risen));
    }

-- a mark of a port came behind its rows and to its word
pub same-marked : (old mid new : RecordedView) (port : ServedView) (kind : MarkKind) → Between old mid port
    → port ≡ record old.port { state = record old.port.state { busy = port.state.busy; change = port.state.change; closes = port.state.closes } }
    → new ≡ record mid { rows = mid.rows ++ Mark kind ∷ []; room = new.room; seat = port_known mid.seat.table (marked mid.seat.known (stat_mark kind)) }
    → IsSameRecorded old new
same-marked old mid new port kind b kept e =
    let r = served-refl old.port in
    let s : IsSameServed old.port port = subst (IsSameServed old.port) (sym kept)
    (record { state = record { number = refl; processes = refl; kind = refl }; faults = r.faults; life = λ fresh. fresh; events = refl; jobs = refl; pool = refl }) in
    same-trans old mid new (same-between old mid port b s) (subst (IsSameRecorded mid) (sym e) (record {
      opening = refl;
      rows = grew-one mid.rows (Mark kind);
      port = served-refl mid.port;
      ends = refl;
      seat = record { table = refl; setup = refl; joined = refl };
      places = refl;
      failed = λ first risen. risen-row mid.rows (Mark kind) first mid.port.state.service.faults refl risen;
    }))

-- the senders that are suspended alone changed
pub same-lists : (old mid : RecordedView) → BetweenLists old mid → IsSameRecorded old mid
same-lists old mid b = record {
  opening = b.opening;
  rows = record { more = []; rows = b.rows ∙ sym (append-nil old.rows) };
  port = subst (IsSameServed old.port) (sym b.port) (served-refl old.port);
  ends = ap end_names b.ends;
  seat = subst (IsSameSeat old.seat) (sym b.seat) (seat-refl old.seat);
  places = b.places;
  failed = λ first risen. subst (λ x. RisenBy (failures_in x) first mid.port.state.service.faults) (sym b.rows)
      (subst (λ (x : ServedView). RisenBy (failures_in old.rows) first x.state.service.faults) (sym b.port) risen);
}

-- a row that tells no failure came behind the others
pub same-row : (old new : RecordedView) (row : Row) → failures_in (row ∷ []) ≡ 0 → new ≡ record old { rows = old.rows ++ row ∷ []; room = new.room } → IsSameRecorded old new
same-row old new row none e = subst (IsSameRecorded old) (sym e) (record {
  opening = refl;
  rows = grew-one old.rows row;
  port = served-refl old.port;
  ends = refl;
  seat = seat-refl old.seat;
  places = refl;
  failed = λ first risen. risen-row old.rows row first old.port.state.service.faults none risen;
})

-- the words alone changed
pub same-seated : (old new : RecordedView) → new ≡ record old { seat = new.seat } → IsSameSeat old.seat new.seat → IsSameRecorded old new
same-seated old new e seat = subst (IsSameRecorded old) (sym e) (record {
  opening = refl;
  rows = grew-none old.rows;
  port = served-refl old.port;
  ends = refl;
  seat = seat;
  places = refl;
  failed = λ first risen. risen;
})

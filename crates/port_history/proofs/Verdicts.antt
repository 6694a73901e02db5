-- That the verdict on a history and its laws say the same.
use Rattle.std.proofs.Common.{◌≡◌, ℕ, ◌+◌, List, [], ◌∷◌, length, Bool, true, false, Option, Some, None, refl}
use Rattle.driver_model.specs.port_model.declared.row.Row.{Row}
use Rattle.port_history.specs.Opening.{Opening}
use Rattle.port_history.specs.Marks.{none_due}
use Rattle.port_history.specs.State.{State, state}
use Rattle.port_history.specs.Laws.{keeps_end}
use Rattle.port_history.specs.Lawful.{KeepsLaws, Lawful, least, kept_laws, law_broken, Broken, broken_at, first_broken, broken, end_law, end_broken, VerdictIsWhole, VerdictIsRight}

abbrev All-true : List Bool → Type 0
All-true [] = Unit {0}
All-true (b ∷ bs) = (b ≡ true) × All-true bs

least-whole : (kept : List Bool) (law : ℕ) → least kept law ≡ None → All-true kept
least-whole [] law e = tt
least-whole (true ∷ kept) law e = (refl, least-whole kept (law + 1) e)
least-whole (false ∷ kept) law e = absurd cc

least-right : (kept : List Bool) (law : ℕ) → All-true kept → least kept law ≡ None
least-right [] law h = refl
least-right (true ∷ kept) law h = least-right kept (law + 1) h.1
least-right (false ∷ kept) law h = absurd cc

none-at : (row : ℕ) (law : Option ℕ) → broken_at row law ≡ None → law ≡ None
none-at row None e = refl
none-at row (Some law) e = absurd cc

neither : (a b : Option Broken) → first_broken a b ≡ None → (a ≡ None) × (b ≡ None)
neither None b e = (refl, e)
neither (Some x) b e = absurd cc

keeps : (port : Opening) (s : State) (row : Row) → law_broken port s row ≡ None → KeepsLaws port s row
keeps port s row e = let h = least-whole (kept_laws port s row) 1 e in record {
  order = h.0;
  lifetime = h.1.0;
  busy = h.1.1.0;
  effects = h.1.1.1.0;
  marks = h.1.1.1.1.0;
  listed = h.1.1.1.1.1.0;
  resumed = h.1.1.1.1.1.1.0;
  ready = h.1.1.1.1.1.1.1.0;
  jobs = h.1.1.1.1.1.1.1.1.0;
}

kept : (port : Opening) (s : State) (row : Row) → KeepsLaws port s row → law_broken port s row ≡ None
kept port s row k =
    least-right (kept_laws port s row) 1 (k.order, (k.lifetime, (k.busy, (k.effects, (k.marks, (k.listed, (k.resumed, (k.ready, (k.jobs, tt)))))))))

lawful-rows : (port : Opening) (history : List Row) → broken port history ≡ None → Lawful port history
lawful-rows port [] e = tt
lawful-rows port (row ∷ older) e =
    let h = neither (broken port older) (broken_at (length older) (law_broken port (state port older) row)) e in
    (keeps port (state port older) row (none-at (length older) (law_broken port (state port older) row) h.1), lawful-rows port older h.0)

nothing-broken : (port : Opening) (history : List Row) → Lawful port history → broken port history ≡ None
nothing-broken port [] h = refl
nothing-broken port (row ∷ older) h = rw (nothing-broken port older h.1, kept port (state port older) row h.0) refl

finished-of : (settled ends : Bool) → end_law settled ends ≡ None → (settled ≡ true) × (ends ≡ true)
finished-of true true e = (refl, refl)
finished-of true false e = absurd cc
finished-of false ends e = absurd cc

pub whole : VerdictIsWhole
whole port history e =
    let h = neither (broken port history) (broken_at (length history) (end_broken (state port history))) e in
    let f = finished-of (none_due (state port history).due) (keeps_end (state port history)) (none-at (length history) (end_broken (state port history)) h.1) in
    (lawful-rows port history h.0, record { marks = f.0; end = f.1 })

pub told-right : VerdictIsRight
told-right port history l f = rw (nothing-broken port history l, f.marks, f.end) refl

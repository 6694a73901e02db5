-- What stays the same of a port.
use Rattle.std.proofs.Common.{◌≡◌, ◌^◌, ◌-◌, ℕ, Bool, true, false, List, [], ◌∷◌, ◌++◌, ◌+◌, length, length-append, Some, None, refl, sym, ap, ◌∙◌, subst, arith}
use Rattle.std.specs.Prelude.{Result, Ok, Err, OnOk, not, if◌then◌else◌}
use Rattle.std.proofs.lemmas.List.{append-nil, append_assoc}
use Rattle.port_driver.specs.driver_model.Calls.{Kind}
use Rattle.port_driver.specs.Faults.{failures_in, RisenBy}
use Rattle.port_driver.proofs.Faults.{failures_in-append}
use Rattle.port_model.specs.declared.row.Row.{Row}
use Rattle.port_words.specs.busy.Known.{PortKnown}
use Rattle.served_port.specs.port_events.Table.{EventTable}
use Rattle.port_lanes.specs.port_history.Mail.{Sent}
use Rattle.port_lanes.specs.port_history.Opening.{Opening}
use Rattle.port_lanes.specs.port_history.State.{State, state_at_start, is_open}
use Rattle.port_mail.specs.Ends.{MailEnd, Puts, Posts}
use Rattle.served_port.specs.View.{ServedView, IsSameServed, end_name, end_names}
use Rattle.served_port.proofs.EndNames.{names_by_place}
use Rattle.recorded_port.specs.View.{RecordedView}
use Rattle.recorded_port.specs.Taking.{GrewTo, IsSameRecorded, IsSameSeat, UsesRoom}

pub on-ok : {T E : Type 0} (r : Result T E) {P Q : Type 0} → (P → Q) → OnOk r P → OnOk r Q
on-ok (Ok value) f p = f p
on-ok (Err error) f p = tt

pub served-refl : (v : ServedView) → IsSameServed v v
served-refl v = record { state = record { number = refl; processes = refl; kind = refl }; faults = omega (arith); life = λ fresh. fresh; events = refl; jobs = refl; pool = refl }

pub served-trans : (a b c : ServedView) → IsSameServed a b → IsSameServed b c → IsSameServed a c
served-trans a b c p q = record {
  state = record { number = q.state.number ∙ p.state.number; processes = q.state.processes ∙ p.state.processes; kind = q.state.kind ∙ p.state.kind };
  faults = let m = p.faults in let n = q.faults in omega (arith);
  events = q.events ∙ ap (λ (e : EventTable). record e { selector = c.events.selector; asks = record e.asks { sent = c.events.asks.sent } }) p.events;
  jobs = q.jobs ∙ p.jobs;
  life = λ fresh. p.life (q.life fresh);
  pool = q.pool ∙ p.pool;
}

pub grew-none : (rows : List Row) → GrewTo rows rows
grew-none rows = record { more = []; rows = sym (append-nil rows) }

pub grew-one : (rows : List Row) (row : Row) → GrewTo rows (rows ++ row ∷ [])
grew-one rows row = record { more = row ∷ []; rows = refl }

grew-trans : (a b c : List Row) → GrewTo a b → GrewTo b c → GrewTo a c
grew-trans a b c p q = record { more = p.more ++ q.more; rows = q.rows ∙ (ap (λ x. x ++ q.more) p.rows ∙ append_assoc a p.more q.more) }

-- a row takes a place for which there was room
pub row-room : (old new : RecordedView) (row : Row) → new.rows ≡ old.rows ++ row ∷ [] → new.room + 1 ≡ old.room → UsesRoom old new
row-room old new row rows less = let more = ap length rows ∙ length-append old.rows (row ∷ []) in omega (arith, less, more)

pub seat-refl : (seat : PortKnown) → IsSameSeat seat seat
seat-refl seat = record { table = refl; setup = refl; joined = refl }

seat-trans : (a b c : PortKnown) → IsSameSeat a b → IsSameSeat b c → IsSameSeat a c
seat-trans a b c p q = record { table = q.table ∙ p.table; setup = q.setup ∙ p.setup; joined = q.joined ∙ p.joined }

pub same-refl : (v : RecordedView) → IsSameRecorded v v
same-refl v = record { opening = refl; rows = grew-none v.rows; port = served-refl v.port; ends = refl; seat = seat-refl v.seat; places = refl; failed = λ first risen. risen }

pub same-trans : (a b c : RecordedView) → IsSameRecorded a b → IsSameRecorded b c → IsSameRecorded a c
same-trans a b c p q = record {
  opening = q.opening ∙ p.opening;
  rows = grew-trans a.rows b.rows c.rows p.rows q.rows;
  port = served-trans a.port b.port c.port p.port q.port;
  ends = q.ends ∙ p.ends;
  seat = seat-trans a.seat b.seat c.seat p.seat q.seat;
  places = q.places ∙ p.places;
  failed = λ first risen. q.failed first (p.failed first risen);
}

-- a row that tells no failure
pub risen-row : (rows : List Row) (row : Row) (first after : ℕ) → failures_in (row ∷ []) ≡ 0 → RisenBy (failures_in rows) first after
    → RisenBy (failures_in (rows ++ row ∷ [])) first after
risen-row rows row first after none risen = let e = failures_in-append rows (row ∷ []) in omega (arith, e, none, risen)

-- a row that tells no failure and its mail alone came to it
pub same-written : (old new : RecordedView) (row : Row) (room : ℕ) (ends : List MailEnd) → new ≡ record old { rows = old.rows ++ row ∷ []; room = room; ends = ends }
    → failures_in (row ∷ []) ≡ 0 → end_names ends ≡ end_names old.ends → IsSameRecorded old new
same-written old new row room ends e none names =
    subst (λ x. IsSameRecorded old x) (sym e)
    (record {
      opening = refl;
      rows = grew-one old.rows row;
      port = served-refl old.port;
      ends = names;
      seat = seat-refl old.seat;
      places = refl;
      failed = λ first risen. risen-row old.rows row first old.port.state.service.faults none risen;
    })

posted-names : (ended : List ℕ) (old new : List MailEnd) (sent : List Sent) → Posts ended old new sent → end_names new ≡ end_names old
posted-names ended old new sent p = names_by_place old new p.processes (λ n e less. ap end_name (p.ends n e less))

pub put-names : {T E : Type 0} (r : Result T E) (ended : List ℕ) (old new : List MailEnd) (sent : List Sent) → Puts r ended old new sent → end_names new ≡ end_names old
put-names (Ok value) ended old new sent p = posted-names ended old new sent p
put-names (Err error) ended old new sent p = posted-names ended old new p.first p.posted

-- some state of a port that is open or not
abbrev pub state-with : Opening → Bool → State
state-with port closed = record (state_at_start port) { reason = if closed then Some [] else None }

pub state-with-open : (port : Opening) (closed : Bool) → closed ≡ not (is_open (state-with port closed))
state-with-open port true = refl
state-with-open port false = refl

pub puts-each : {T E S : Type 0} {P : S → Type 0} (r : Result T E) (ended : List ℕ) (old new : List MailEnd) (f : S → List Sent)
    → ((s : S) → P s → Puts r ended old new (f s)) → OnOk r ((s : S) → P s → Posts ended old new (f s))
puts-each (Ok value) ended old new f puts = puts
puts-each (Err error) ended old new f puts = tt

pub not-false-of : (b : Bool) → true ≡ not b → b ≡ false
not-false-of true e = absurd cc
not-false-of false e = refl

pub puts-any : {T E S : Type 0} (r : Result T E) (ended : List ℕ) (old new : List MailEnd) (f : S → List Sent)
    → ((s : S) → Puts r ended old new (f s)) → OnOk r ((s : S) → Posts ended old new (f s))
puts-any (Ok value) ended old new f puts = puts
puts-any (Err error) ended old new f puts = tt

pub same-opening : (o : Opening) (n : ℕ) (k : Kind) → n ≡ o.processes → k ≡ o.kind → record o { processes = n; kind = k } ≡ o
same-opening o n k p q = ap (λ x. record o { processes = x; kind = k }) p ∙ ap (λ x. record o { kind = x }) q

pub on-both : {T E : Type 0} (r : Result T E) {P Q S : Type 0} → (P → Q → S) → OnOk r P → OnOk r Q → OnOk r S
on-both (Ok value) f p q = f p q
on-both (Err error) f p q = tt

-- A task may come to its row, and what that and a resume leave.
use Rattle.std.proofs.Common.{◌≡◌, ℕ, ◌+◌, ◌<◌, arith, cond, map, Bool, true, false, ◌&&◌, ◌||◌, List, [], ◌∷◌, ◌++◌, length, Option, Some, None, is_some, refl, sym, ap, ◌∙◌, subst, eq-eqb, inl, inr}
use Rattle.std.specs.Prelude.{not, reverse, IfOk, IfSome, Result, Ok, Err, OnOk}
use Rattle.std.proofs.lemmas.Bool.{lt-ltb}
use Rattle.waiting_parcels.specs.Waiting.{Waiting}
use Rattle.recorded_port.specs.served_port.Outcomes.{is_handled}
use Rattle.std.proofs.lemmas.List.{append-nil, append_assoc}
use Rattle.task_queue.specs.declared.item.Item.{Item}
use Rattle.task_queue.specs.Items.{items_of}
use Rattle.port_lanes.specs.Keys.{Key, sender_at}
use Rattle.port_lanes.specs.Parcels.{ParcelView}
use Rattle.port_state.specs.port_links.Table.{IsAmong}
use Rattle.port_model.specs.declared.row.Row.{Row}
use Rattle.port_model.specs.declared.row.Row.TheVariants.{Mark}
use Rattle.port_model.specs.declared.signal.Sender.{Sender}
use Rattle.port_model.specs.declared.signal.Sender.TheVariants.{Process}
use Rattle.port_model.specs.Tasks.{TaskView}
use Rattle.port_events.specs.port_history.Marks.{is_busy}
use Rattle.port_events.specs.port_history.Laws.{count_of}
use Rattle.port_events.specs.port_history.Opening.{Opening}
use Rattle.port_events.specs.port_history.Service.{first_reason}
use Rattle.port_events.specs.port_history.State.{State, state, is_open}
use Rattle.port_events.specs.port_history.Suspension.{is_queue_busy}
use Rattle.port_words.specs.busy.Known.{PortKnown}
use Rattle.recorded_port.specs.View.{RecordedView, IsSettled, state_of}
use Rattle.recorded_port.specs.Taking.{MayTake, Takes, TellsOf, IsSameRecorded, UsesRoom}
use Rattle.recorded_port.specs.Resuming.{Resumes, may_go, resumed_rows}
use Rattle.port_body.specs.LanePort.{LanePortView, HasRoom, Holds, OwnItems, AreNumbered, rows_from}
use Rattle.port_body.specs.Steps.{MayGo, SettlesOne, SettlesFirst, HasLooked}
use Rattle.port_body.proofs.Holding.{among, within-lane, same-tasks}
use Rattle.port_body.proofs.Room.{late_room, resumed_room, took_room}
use Rattle.port_body.proofs.Rows.{counted, quiet-rows, quiet-reverse, quiet-marks, task-reverse}

pub on-both : {T E : Type 0} (r : Result T E) {P Q S : Type 0} → (P → Q → S) → OnOk r P → OnOk r Q → OnOk r S
on-both (Ok value) f p q = f p q
on-both (Err error) f p q = tt

pub on-one : {T E : Type 0} (r : Result T E) {P Q : Type 0} → (P → Q) → OnOk r P → OnOk r Q
on-one (Ok value) f p = f p
on-one (Err error) f p = tt

pub if-ok : {T E : Type 0} (r : Result T E) {P Q : T → Type 0} → ((value : T) → P value → Q value) → IfOk r P → IfOk r Q
if-ok (Ok value) f p = f value p
if-ok (Err error) f p = tt

if-some : {X : Type 0} {P Q : X → Type 0} (o : Option X) → ((x : X) → P x → Q x) → IfSome o P → IfSome o Q
if-some None f p = tt
if-some (Some x) f p = f x p

first-number : (x : Item ParcelView) (rest : List (Item ParcelView)) (first : ℕ) → AreNumbered first (items_of x.sender (x ∷ rest)) → x.seq ≡ first
first-number x rest first numbers =
    (subst (λ b. AreNumbered first (cond b (x ∷ items_of x.sender rest) (items_of x.sender rest))) (eq-eqb x.sender x.sender refl) numbers).0

pub may-take : (v : LanePortView) (x : Item ParcelView) (rest : List (Item ParcelView)) → Holds v (x ∷ rest) → MayGo v x → MayTake v.port (sender_at v.lane.key x.sender) x.seq x.value
may-take v x rest h free =
    let from = sender_at v.lane.key x.sender in
    let within = within-lane v.lane.key x h.due.0.fits in
    let number : x.seq ≡ count_of from (state_of v.port).senders =
    first-number x rest (length (rows_from from (reverse v.port.rows))) (h.accounts x.sender within).numbers ∙ sym (counted v.port.opening (reverse v.port.rows) from) in
    let links : v.port.port.state.links.processes ≡ v.lane.key.processes = h.settled.recorded.at.state.processes ∙ (h.port_processes ∙ h.processes) in
    record {
      task = record {
        among = subst (λ p. IsAmong p from) (sym links) (among v.lane.key x.sender);
        next = both (eq-eqb x.seq (count_of from (state_of v.port).senders) number) h.due.0.fits.sender;
        free = free;
        listed = h.due.0.listed;
      };
      table = if-some x.value.weight (λ w e. e ∙ h.table) h.due.0.fits.table;
    }
  where
    both : {a b : Bool} → a ≡ true → b ≡ true → (a && b) ≡ true
    both e f = rw (e, f) refl

-- a port that isn't open stays so
stays-shut : (r other : Option (List ℕ)) → not (is_some r) ≡ false → not (is_some (first_reason r other)) ≡ false
stays-shut None other e = absurd cc
stays-shut (Some r) other e = refl

told-shut : (port : Opening) (before : List Row) (row : Row) (from : Sender) (seq : ℕ) (task : TaskView) → TellsOf row from seq task
    → is_open (state port before) ≡ false → is_open (state port (row ∷ before)) ≡ false
told-shut port before row from seq task (inl late) shut = subst (λ x. is_open (state port (x ∷ before)) ≡ false) (sym late) shut
told-shut port before row from seq task (inr (outside, effects, handled)) shut =
    subst (λ x. is_open (state port (x ∷ before)) ≡ false) (sym handled) (stays-shut (state port before).reason _ shut)

-- what the look at those who wait left
pub after-look : (old port : RecordedView) → IsSameRecorded old port → Resumes old port → HasLooked port
after-look old port same (inl (none, is)) = inl (subst (λ (p : RecordedView). (state_of p).listed ≡ []) (sym is) none)
after-look old port same (inr (word, looked)) = elim (may_go (state_of old) word) as (λ b. may_go (state_of old) word ≡ b → HasLooked port) [
  | true ↦ λ goes. inl (looked.all goes).1
  | false ↦ λ stays.
      let here : state_of port ≡ state_of old = ap (λ o. state o (reverse port.rows)) same.opening ∙ ap (λ r. state old.opening (reverse r)) (looked.nobody stays).0 in
      inr (record {
        opened = ap is_open here ∙ left (is_open (state_of old)) (is_busy (state_of old).marks) (is_queue_busy word) stays;
        busy = which (is_open (state_of old)) (is_busy (state_of old).marks) (is_queue_busy word) stays (λ b. inl (ap (λ (s : State). is_busy s.marks) here ∙ b))
            (λ q. inr (word, old.seat.known.words, ap (λ (x : PortKnown). x.known.words) looked.seat, q));
      })
] refl where
  left : (o b q : Bool) → (not o || not (b || q)) ≡ false → o ≡ true
  left true b q e = refl
  left false b q e = absurd cc

  which : (o b q : Bool) {R : Type 0} → (not o || not (b || q)) ≡ false → (b ≡ true → R) → (q ≡ true → R) → R
  which true true q e f g = f refl
  which true false true e f g = g refl
  which true false false e f g = absurd cc
  which false b q e f g = absurd cc

-- the rows that a resume adds
pub record Added (old port : RecordedView) : Type 0 where
  pub more : List Row
  pub rows : port.rows ≡ old.rows ++ more

pub added : (old port : RecordedView) → Resumes old port → Added old port
added old port (inl (none, is)) = record { more = []; rows = ap (λ (p : RecordedView). p.rows) is ∙ sym (append-nil old.rows) }
added old port (inr (word, looked)) = elim (may_go (state_of old) word) as (λ b. may_go (state_of old) word ≡ b → Added old port) [
  | true ↦ λ goes. record { more = resumed_rows word (state_of old).listed; rows = (looked.all goes).0 }
  | false ↦ λ stays. record { more = []; rows = (looked.nobody stays).0 ∙ sym (append-nil old.rows) }
] refl

pub settles-one : (old new : LanePortView) (mid : RecordedView) (x : Item ParcelView) → Takes old.port mid (sender_at old.lane.key x.sender) x.seq x.value.task → IsSameRecorded old.port mid
    → IsSameRecorded mid new.port → Resumes mid new.port → new ≡ record old { port = new.port } → IsSettled old.port → IsSettled mid → IsSettled new.port
    → UsesRoom old.port mid → UsesRoom mid new.port → SettlesOne old new x
settles-one old new mid x takes same again resumes rest first second third took look =
    let a = added mid new.port resumes in
    record {
      row = takes.row;
      behind = map Mark takes.marks ++ a.more;
      rows = a.rows ∙ (ap (λ r. r ++ a.more) takes.rows ∙ append_assoc old.port.rows (takes.row ∷ map Mark takes.marks) a.more);
      tells = takes.tells;
      rest = rest;
      looked = after-look mid new.port again resumes;
      room = λ rows enough. resumed_room mid new.port second third look resumes rows (took_room old.port mid (sender_at old.lane.key x.sender) x.seq x.value.task first second took takes rows enough);
      late = λ miss rows enough.
          resumed_room mid new.port second third look resumes rows (late_room old.port mid (sender_at old.lane.key x.sender) x.seq x.value.task first second took takes miss rows enough);
      shut = λ shut.
          let o = old.port.opening in
          let told = told-shut o (reverse old.port.rows) takes.row (sender_at old.lane.key x.sender) x.seq x.value.task takes.tells shut in
          let quiet = quiet-rows o (reverse (map Mark takes.marks)) (takes.row ∷ reverse old.port.rows) (quiet-reverse (map Mark takes.marks) (quiet-marks takes.marks)) in
          let marked = ap (λ r. not (is_some r)) quiet.reason ∙ told in
          let mid_shut : is_open (state_of mid) ≡ false =
          ap (λ p. is_open (state p (reverse mid.rows))) same.opening ∙ (ap (λ r. is_open (state o (reverse r))) takes.rows
          ∙ (ap (λ r. is_open (state o r)) (task-reverse old.port.rows takes.row takes.marks) ∙ marked)) in
          let tasks = same-tasks mid new.port again resumes in
          ap (λ p. is_open (state p (reverse new.port.rows))) again.opening ∙ (ap (λ r. not (is_some r)) tasks.reason ∙ mid_shut);
    }

pub process-at : (key : Key) (n : ℕ) → n < key.processes → sender_at key n ≡ Process n
process-at key n below = rw (lt-ltb n key.processes below) refl

-- a port that isn't open handles no task of a process
pub shut-free : (v : LanePortView) (x : Item ParcelView) → x.sender < v.processes → v.processes ≡ v.lane.key.processes → is_open (state_of v.port) ≡ false → MayGo v x
shut-free v x below same shut handled =
    let at = process-at v.lane.key x.sender (subst (λ p. x.sender < p) same below) in
    let opened : is_open (state_of v.port) ≡ true = sym (ap (λ s. is_handled (state_of v.port) s x.value.task.signal) at) ∙ handled in
    absurd (cc)

pub settles-first : (old new : LanePortView) (waiting : Waiting) (x : Item ParcelView) → old.waiting.items ≡ x ∷ waiting.items → OwnItems old.processes old.waiting.items
    → is_open (state_of old.port) ≡ false → old.processes ≡ old.lane.key.processes → HasRoom (2 + length old.waiting.items) old → SettlesOne (record old { waiting = waiting }) new x
    → SettlesFirst old new
settles-first old new waiting x items owners shut known room one = record {
  behind = one.row ∷ one.behind;
  rows = one.rows;
  lane = ap (λ (v : LanePortView). v.lane) one.rest;
  processes = ap (λ (v : LanePortView). v.processes) one.rest;
  owners = subst (λ (v : LanePortView). OwnItems v.processes v.waiting.items) (sym one.rest) (subst (OwnItems old.processes) items owners).1;
  looked = one.looked;
  shut = one.shut shut;
  room =
      let many = ap length items in
      let left = ap (λ (v : LanePortView). length v.waiting.items) one.rest in
      let at = process-at old.lane.key x.sender (subst (λ p. x.sender < p) known (subst (OwnItems old.processes) items owners).0) in
      let late : is_handled (state_of old.port) (sender_at old.lane.key x.sender) x.value.task.signal ≡ false = ap (λ s. is_handled (state_of old.port) s x.value.task.signal) at ∙ shut in
      subst (λ n. HasRoom n new) (omega (arith, left)) (one.late late (2 + length waiting.items) (let enough = room in omega (arith, many, enough)));
}

-- What holds of a body stays so as its items are moved, and as one comes to its row.
use Rattle.std.proofs.Common.{◌≡◌, ℕ, ◌+◌, ◌<◌, ◌≤◌, ◌-◌, ◌==◌, cond, map, Bool, true, false, ◌&&◌, List, [], ◌∷◌, ◌++◌, length, length-append, refl, sym, ap, ◌∙◌, subst, arith, eqb-true, inl, inr}
use Rattle.std.specs.Prelude.{not, reverse, nat_lt, if◌then◌else◌}
use Rattle.std.specs.List.{AllByRecursion}
use Rattle.std.proofs.lemmas.Bool.{ltb-true}
use Rattle.std.proofs.lemmas.Cmp.{nat_eq_equiv}
use Rattle.std.proofs.lemmas.List.{append-nil, append_assoc}
use Rattle.task_queue.specs.declared.item.Item.{Item}
use Rattle.task_queue.specs.Items.{items_of}
use Rattle.port_lanes.specs.Keys.{Key, end_of, sender_at}
use Rattle.port_lanes.specs.Parcels.{ParcelView, FitsLane}
use Rattle.port_model.specs.declared.signal.Sender.{Sender}
use Rattle.port_state.specs.port_links.Table.{IsAmong}
use Rattle.port_model.specs.declared.signal.Sender.TheVariants.{Process, Poller, Worker, Timer}
use Rattle.port_model.specs.Tasks.{TaskView}
use Rattle.port_events.specs.port_history.Laws.{is_listed_right, may_send}
use Rattle.port_events.specs.port_history.Opening.{same_sender}
use Rattle.port_events.specs.port_history.State.{State, state}
use Rattle.port_events.specs.port_history.Suspension.{entry, has_entry}
use Rattle.waiting_parcels.specs.Waiting.{Waiting, GoesFirst, has_sender}
use Rattle.recorded_port.specs.View.{RecordedView, IsSettled, state_of}
use Rattle.recorded_port.specs.Taking.{Takes, IsSameRecorded}
use Rattle.recorded_port.specs.Resuming.{Resumes, may_go}
use Rattle.port_body.specs.LanePort.{AreFalling, LanePortView, HasEnd, Holds, IsBody, OwnItems, IsDue, WasTaken, AreNumbered, rows_from, tasks_of}
use Rattle.port_body.proofs.Items.{items-moved}
use Rattle.port_body.proofs.Places.{apart, not-lt}
use Rattle.port_body.proofs.Rows.{OneTask, SameTasks, after-task, after-resumes}

all-parts : {X : Type 0} (P : X → Type 0) (xs ys : List X) → AllByRecursion P (xs ++ ys) → AllByRecursion P xs × AllByRecursion P ys
all-parts P [] ys all = (tt, all)
all-parts P (x ∷ xs) ys all = let rest = all-parts P xs ys all.1 in ((all.0, rest.0), rest.1)

pub all-append : {X : Type 0} (P : X → Type 0) (xs ys : List X) → AllByRecursion P xs → AllByRecursion P ys → AllByRecursion P (xs ++ ys)
all-append P [] ys left right = right
all-append P (x ∷ xs) ys left right = (left.0, all-append P xs ys left.1 right)

pub all-map : {X : Type 0} (P Q : X → Type 0) (xs : List X) → ((x : X) → P x → Q x) → AllByRecursion P xs → AllByRecursion Q xs
all-map P Q [] f all = tt
all-map P Q (x ∷ xs) f all = (f x all.0, all-map P Q xs f all.1)

-- the item that goes first may stand in front of all others
pub first-moved : (v : LanePortView) (busy : Bool) (items : List (Item ParcelView)) (x : Item ParcelView) (rest : List (Item ParcelView)) → Holds v items → GoesFirst busy items x rest
    → Holds v (x ∷ rest)
first-moved v busy items x rest h goes =
    let parts = all-parts (IsDue v) goes.before (x ∷ goes.after) (subst (AllByRecursion (IsDue v)) goes.split h.due) in
    let alone : has_sender x.sender goes.before ≡ false = first-of (has_sender x.sender goes.before) _ goes.goes in
    let same : (n : ℕ) → items_of n items ≡ items_of n (x ∷ rest) = λ n.
    ap (items_of n) goes.split ∙ (sym (items-moved n x goes.before goes.after alone) ∙ ap (λ t. items_of n (x ∷ t)) (sym goes.left)) in
    record {
      settled = h.settled;
      table = h.table;
      processes = h.processes;
      workers = h.workers;
      port_processes = h.port_processes;
      senders = h.senders;
      accounts = λ n within.
          let a = h.accounts n within in
          record {
            tasks = subst (λ t. rows_from (sender_at v.lane.key n) (reverse v.port.rows) ++ map (λ (i : Item ParcelView). i.value.task) t ≡ tasks_of n v.lane.taken) (same n) a.tasks;
            numbers = subst (λ t. AreNumbered (length (rows_from (sender_at v.lane.key n) (reverse v.port.rows))) t) (same n) a.numbers;
          };
      due = (parts.1.0, subst (AllByRecursion (IsDue v)) (sym goes.left) (all-append (IsDue v) goes.before goes.after parts.0 parts.1.1));
      entries = h.entries;
      falling = h.falling;
      from_ends = h.from_ends;
    }
  where
    first-of : (a b : Bool) → (not a && b) ≡ true → a ≡ false
    first-of true b e = absurd cc
    first-of false b e = refl

-- an item that fits the lane has an end below the timer's
no-timer : (key : Key) (m : ℕ) → end_of key Timer ≤ m → sender_at key m ≡ Timer
no-timer key m above =
    elim (nat_lt m key.processes) as (λ b. nat_lt m key.processes ≡ b → sender_at key m ≡ Timer) [
      | true ↦ λ yes. absurd (let low = ltb-true m key.processes yes in omega (arith, above, low))
      | false ↦ λ miss. elim (m == key.processes) as (λ b. (m == key.processes) ≡ b → sender_at key m ≡ Timer) [
        | true ↦ λ same. absurd (let at = eqb-true m key.processes same in omega (arith, above, at))
        | false ↦ λ other. elim (nat_lt (m - (key.processes + 1)) key.workers) as (λ b. nat_lt (m - (key.processes + 1)) key.workers ≡ b → sender_at key m ≡ Timer) [
          | true ↦ λ small. absurd (let low = ltb-true (m - (key.processes + 1)) key.workers small in omega (arith, above, low))
          | false ↦ λ great. rw (miss, other, great) refl
        ] refl
      ] refl
    ] refl

pub within-lane : (key : Key) (x : Item ParcelView) → FitsLane key x.sender x.value → x.sender < end_of key Timer
within-lane key x fits = elim (nat_lt x.sender (end_of key Timer)) as (λ b. nat_lt x.sender (end_of key Timer) ≡ b → x.sender < end_of key Timer) [
  | true ↦ λ yes. ltb-true x.sender (end_of key Timer) yes
  | false ↦ λ miss. absurd (
      let timer = no-timer key x.sender (not-lt x.sender (end_of key Timer) miss) in
      let sends : may_send Timer x.value.task.signal ≡ true = sym (ap (λ s. may_send s x.value.task.signal) timer) ∙ fits.sender in cc)
] refl

flip : (n m : ℕ) → (n == m) ≡ (m == n)
flip n m = nat_eq_equiv.symm n m

same-listed : (s t : State) (from : Sender) (seq : ℕ) (task : TaskView) → t.entries ≡ s.entries → is_listed_right s from seq task ≡ true → is_listed_right t from seq task ≡ true
same-listed s t from seq task e right = ap (λ es. if task.suspends then has_entry (entry from seq) es else not (has_entry (entry from seq) es)) e ∙ right

-- An item came to its row

counts-on : (own : Bool) (rows taken : List TaskView) (x : Item ParcelView) (rest : List (Item ParcelView))
    → rows ++ map (λ (i : Item ParcelView). i.value.task) (cond own (x ∷ rest) rest) ≡ taken → AreNumbered (length rows) (cond own (x ∷ rest) rest)
    → ((rows ++ (if own then x.value.task ∷ [] else [])) ++ map (λ (i : Item ParcelView). i.value.task) rest ≡ taken)
    × AreNumbered (length (rows ++ (if own then x.value.task ∷ [] else []))) rest
counts-on true rows taken x rest tasks numbers = (
  append_assoc rows (x.value.task ∷ []) (map (λ (i : Item ParcelView). i.value.task) rest) ∙ tasks,
  subst (λ k. AreNumbered k rest) (let more = length-append rows (x.value.task ∷ []) in omega (arith, more)) numbers.1,
)
counts-on false rows taken x rest tasks numbers =
    (ap (λ t. t ++ map (λ (i : Item ParcelView). i.value.task) rest) (append-nil rows) ∙ tasks, subst (λ t. AreNumbered (length t) rest) (sym (append-nil rows)) numbers)

pub took : (old : LanePortView) (port : RecordedView) (x : Item ParcelView) (rest : List (Item ParcelView)) → Holds old (x ∷ rest) → IsSettled port → IsSameRecorded old.port port
    → Takes old.port port (sender_at old.lane.key x.sender) x.seq x.value.task → Holds (record old { port = port }) rest
took old port x rest h settled same takes =
    let key = old.lane.key in
    let from = sender_at key x.sender in
    let one : OneTask old.port.opening (reverse old.port.rows) (reverse port.rows) from x.value.task =
    subst (λ r. OneTask old.port.opening (reverse old.port.rows) (reverse r) from x.value.task) (sym takes.rows)
    (after-task old.port.opening old.port.rows takes.row takes.marks from x.seq x.value.task takes.tells) in
    let entries : (state_of port).entries ≡ (state_of old.port).entries = ap (λ o. (state o (reverse port.rows)).entries) same.opening ∙ one.entries in
    let senders : (state_of port).senders ≡ from ∷ (state_of old.port).senders = ap (λ o. (state o (reverse port.rows)).senders) same.opening ∙ one.senders in
    let inside = within-lane key x h.due.0.fits in
    record {
      settled = settled;
      table = h.table ∙ sym same.seat.table;
      processes = h.processes;
      workers = h.workers;
      port_processes = ap (λ o. o.processes) same.opening ∙ h.port_processes;
      senders = h.senders;
      accounts = λ n within.
          let a = h.accounts n within in
          let own : same_sender (sender_at key n) from ≡ (x.sender == n) = apart key n x.sender within inside ∙ flip n x.sender in
          let rows : rows_from (sender_at key n) (reverse port.rows) ≡ rows_from (sender_at key n) (reverse old.port.rows) ++ (if x.sender == n then x.value.task ∷ [] else []) =
          one.rows (sender_at key n) ∙ ap (λ b. rows_from (sender_at key n) (reverse old.port.rows) ++ (if b then x.value.task ∷ [] else [])) own in
          let c = counts-on (x.sender == n) (rows_from (sender_at key n) (reverse old.port.rows)) (tasks_of n old.lane.taken) x (items_of n rest) a.tasks a.numbers in
          record {
            tasks = ap (λ t. t ++ tasks_of n rest) rows ∙ c.0;
            numbers = subst (λ t. AreNumbered (length t) (items_of n rest)) (sym rows) c.1;
          };
      due = all-map (IsDue old) (IsDue (record old { port = port })) rest (λ y d. record {
        fits = d.fits;
        listed = same-listed (state_of old.port) (state_of port) (sender_at key y.sender) y.seq y.value.task entries d.listed;
        taken = d.taken;
      }) h.due.1;
      entries = all-map (WasTaken old) (WasTaken (record old { port = port })) (state_of port).entries (λ e t. record { number = t.number; within = t.within; from = t.from; taken = t.taken })
          (subst (AllByRecursion (WasTaken old)) (sym entries) h.entries);
      falling = subst AreFalling (sym entries) h.falling;
      from_ends = subst (AllByRecursion (HasEnd key)) (sym senders) (record { number = x.sender; within = inside; is = refl }, h.from_ends);
    }

-- Those who waited for a resume were resumed

pub same-tasks : (old port : RecordedView) → IsSameRecorded old port → Resumes old port → SameTasks old.opening (reverse old.rows) (reverse port.rows)
same-tasks old port same (inl (none, is)) = subst (λ (p : RecordedView). SameTasks old.opening (reverse old.rows) (reverse p.rows)) (sym is) (record { rows = λ from. refl; senders = refl; entries = refl; reason = refl })
same-tasks old port same (inr (word, looked)) = elim (may_go (state_of old) word) as (λ b. may_go (state_of old) word ≡ b → SameTasks old.opening (reverse old.rows) (reverse port.rows)) [
  | true ↦ λ goes. subst (λ r. SameTasks old.opening (reverse old.rows) (reverse r)) (sym (looked.all goes).0) (after-resumes old.opening old.rows word (state_of old).listed)
  | false ↦ λ stays. subst (λ r. SameTasks old.opening (reverse old.rows) (reverse r)) (sym (looked.nobody stays).0) (record { rows = λ from. refl; senders = refl; entries = refl; reason = refl })
] refl

pub resumed : (old : LanePortView) (port : RecordedView) (items : List (Item ParcelView)) → Holds old items → IsSettled port → IsSameRecorded old.port port → Resumes old.port port
    → Holds (record old { port = port }) items
resumed old port items h settled same resumes =
    let key = old.lane.key in
    let tasks = same-tasks old.port port same resumes in
    let entries : (state_of port).entries ≡ (state_of old.port).entries = ap (λ o. (state o (reverse port.rows)).entries) same.opening ∙ tasks.entries in
    record {
      settled = settled;
      table = h.table ∙ sym same.seat.table;
      processes = h.processes;
      workers = h.workers;
      port_processes = ap (λ o. o.processes) same.opening ∙ h.port_processes;
      senders = h.senders;
      accounts = λ n within.
          let a = h.accounts n within in
          record {
            tasks = ap (λ t. t ++ tasks_of n items) (tasks.rows (sender_at key n)) ∙ a.tasks;
            numbers = subst (λ t. AreNumbered (length t) (items_of n items)) (sym (tasks.rows (sender_at key n))) a.numbers;
          };
      due = all-map (IsDue old) (IsDue (record old { port = port })) items (λ y d. record {
        fits = d.fits;
        listed = same-listed (state_of old.port) (state_of port) (sender_at key y.sender) y.seq y.value.task entries d.listed;
        taken = d.taken;
      }) h.due;
      entries = all-map (WasTaken old) (WasTaken (record old { port = port })) (state_of port).entries (λ e t. record { number = t.number; within = t.within; from = t.from; taken = t.taken })
          (subst (AllByRecursion (WasTaken old)) (sym entries) h.entries);
      falling = subst AreFalling (sym entries) h.falling;
      from_ends = subst (AllByRecursion (HasEnd key)) (sym (ap (λ o. (state o (reverse port.rows)).senders) same.opening ∙ tasks.senders)) h.from_ends;
    }

-- what holds says nothing of the list of those that wait but how many senders it knows
pub waits : (v : LanePortView) (waiting : Waiting) (items : List (Item ParcelView)) → Holds v items → waiting.senders ≡ v.waiting.senders → Holds (record v { waiting = waiting }) items
waits v waiting items h senders = record {
  settled = h.settled;
  table = h.table;
  processes = h.processes;
  workers = h.workers;
  port_processes = h.port_processes;
  senders = senders ∙ h.senders;
  accounts = λ n within. let a = h.accounts n within in record { tasks = a.tasks; numbers = a.numbers };
  due = all-map (IsDue v) (IsDue (record v { waiting = waiting })) items (λ y d. record { fits = d.fits; listed = d.listed; taken = d.taken }) h.due;
  entries = all-map (WasTaken v) (WasTaken (record v { waiting = waiting })) (state_of v.port).entries (λ e t. record { number = t.number; within = t.within; from = t.from; taken = t.taken })
      h.entries;
  falling = h.falling;
  from_ends = h.from_ends;
}

-- who has an end is one of those that there are

among-if : (key : Key) (n : ℕ) (b c : Bool) → IsAmong key.processes (cond b Poller (cond c (Worker (n - (key.processes + 1))) Timer))
among-if key n true c = tt
among-if key n false true = tt
among-if key n false false = tt

pub among : (key : Key) (n : ℕ) → IsAmong key.processes (sender_at key n)
among key n = elim (nat_lt n key.processes) as (λ b. nat_lt n key.processes ≡ b
    → IsAmong key.processes (cond b (Process n) (cond (n == key.processes) Poller (cond (nat_lt (n - (key.processes + 1)) key.workers) (Worker (n - (key.processes + 1))) Timer)))) [
      | true ↦ λ yes. ltb-true n key.processes yes
      | false ↦ λ _. among-if key n (n == key.processes) (nat_lt (n - (key.processes + 1)) key.workers)
    ] refl

pub rearranged : (v : LanePortView) (items others : List (Item ParcelView)) → Holds v items → ((n : ℕ) → items_of n items ≡ items_of n others) → AllByRecursion (IsDue v) others → Holds v others
rearranged v items others h same due = record {
  settled = h.settled;
  table = h.table;
  processes = h.processes;
  workers = h.workers;
  port_processes = h.port_processes;
  senders = h.senders;
  accounts = λ n within.
      let a = h.accounts n within in
      record {
        tasks = subst (λ t. rows_from (sender_at v.lane.key n) (reverse v.port.rows) ++ map (λ (i : Item ParcelView). i.value.task) t ≡ tasks_of n v.lane.taken) (same n) a.tasks;
        numbers = subst (λ t. AreNumbered (length (rows_from (sender_at v.lane.key n) (reverse v.port.rows))) t) (same n) a.numbers;
      };
  due = due;
  entries = h.entries;
  falling = h.falling;
  from_ends = h.from_ends;
}

-- the last item may stand in front, where none of its sender stands before it
pub last-moved : (v : LanePortView) (items : List (Item ParcelView)) (x : Item ParcelView) → Holds v (items ++ x ∷ []) → has_sender x.sender items ≡ false → Holds v (x ∷ items)
last-moved v items x h alone =
    let parts = all-parts (IsDue v) items (x ∷ []) h.due in
    rearranged v (items ++ x ∷ []) (x ∷ items) h
    (λ n. sym (items-moved n x items [] alone) ∙ ap (λ t. items_of n (x ∷ t)) (append-nil items)) (parts.1.0, parts.0)

-- a body that was just opened
pub opened-body : (v : LanePortView) → IsSettled v.port → v.port.rows ≡ [] → v.waiting.items ≡ [] → v.lane.taken ≡ [] → v.lane.key.table ≡ v.port.seat.table
    → v.processes ≡ v.lane.key.processes → v.workers ≡ v.lane.key.workers → v.port.opening.processes ≡ v.processes → v.waiting.senders ≡ v.processes → IsBody v
opened-body v settled rows items taken table processes workers opening senders = record {
  holds = subst (Holds v) (sym items) (record {
    settled = settled;
    table = table;
    processes = processes;
    workers = workers;
    port_processes = opening;
    senders = senders;
    accounts = λ n within. record {
      tasks = ap (λ r. rows_from (sender_at v.lane.key n) (reverse r) ++ []) rows ∙ sym (ap (tasks_of n) taken);
      numbers = tt;
    };
    due = tt;
    entries = subst (AllByRecursion (WasTaken v)) (sym (ap (λ r. (state v.port.opening (reverse r)).entries) rows)) tt;
    falling = subst AreFalling (sym (ap (λ r. (state v.port.opening (reverse r)).entries) rows)) tt;
    from_ends = subst (AllByRecursion (HasEnd v.lane.key)) (sym (ap (λ r. (state v.port.opening (reverse r)).senders) rows)) tt;
  });
  owners = subst (OwnItems v.processes) (sym items) tt;
  closed = λ shut. items;
}

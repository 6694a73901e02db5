-- An item that was just taken from the lane.
use Rattle.std.proofs.Common.{◌≡◌, ℕ, suc, ◌+◌, ◌<◌, ◌≤◌, ◌==◌, cond, map, Bool, true, false, ◌&&◌, ◌||◌, List, [], ◌∷◌, ◌++◌, length, length-append, refl, sym, ap, ◌∙◌, subst, arith, eqb-true, eq-eqb, ne_eqb}
use Rattle.std.specs.Prelude.{not, reverse, if◌then◌else◌}
use Rattle.std.specs.List.{AllByRecursion}
use Rattle.std.proofs.lemmas.List.{append-nil, append_assoc, map-append, length-map}
use Rattle.task_queue.specs.declared.item.Item.{Item}
use Rattle.task_queue.specs.Items.{items_of}
use Rattle.port_lanes.specs.Keys.{Key, end_of, sender_at}
use Rattle.port_lanes.specs.Parcels.{ParcelView}
use Rattle.port_model.specs.declared.signal.Sender.TheVariants.{Process, Timer}
use Rattle.port_model.specs.Tasks.{TaskView}
use Rattle.std.proofs.lemmas.Bool.{le-leb}
use Rattle.port_state.specs.port_links.Table.{IsAmong}
use Rattle.port_model.specs.declared.row.Row.TheVariants.{Listed}
use Rattle.port_events.specs.port_history.Laws.{count_of}
use Rattle.port_events.specs.port_history.Opening.{same_sender}
use Rattle.port_events.specs.port_history.State.{state}
use Rattle.port_events.specs.port_history.Suspension.{Entry, entry, same_entry, has_entry}
use Rattle.recorded_port.specs.View.{RecordedView, IsSettled, state_of}
use Rattle.recorded_port.specs.Taking.{IsSameRecorded}
use Rattle.recorded_port.specs.Resuming.{MayList}
use Rattle.recorded_port.proofs.Append.{rows-more}
use Rattle.port_body.specs.LanePort.{AreFalling, LanePortView, HasEnd, Holds, Accounts, IsDue, WasTaken, AreNumbered, rows_from, tasks_of}
use Rattle.port_body.specs.Steps.{Came}
use Rattle.port_body.proofs.Holding.{all-append, all-map, within-lane, among}
use Rattle.port_body.proofs.Items.{items-append}
use Rattle.port_body.proofs.Places.{apart}
use Rattle.port_body.proofs.Rows.{counted}

abbrev pub before_view : LanePortView → List (Item ParcelView) → LanePortView
before_view v before = record v { lane = record v.lane { taken = before } }

-- the numbers go on with an item behind the others
numbered-more : (first : ℕ) (items : List (Item ParcelView)) (x : Item ParcelView) → AreNumbered first items → x.seq ≡ first + length items → AreNumbered first (items ++ x ∷ [])
numbered-more first [] x numbers e = (omega (arith, e), tt)
numbered-more first (y ∷ items) x numbers e = (numbers.0, numbered-more (suc first) items x numbers.1 (omega (arith, e)))

account-more : (own : Bool) (rows taken : List TaskView) (items before : List (Item ParcelView)) (x : Item ParcelView)
    → rows ++ map (λ (i : Item ParcelView). i.value.task) items ≡ map (λ (i : Item ParcelView). i.value.task) before → AreNumbered (length rows) items
    → (own ≡ true → x.seq ≡ length before)
    → (rows ++ map (λ (i : Item ParcelView). i.value.task) (items ++ (cond own (x ∷ []) [])) ≡ map (λ (i : Item ParcelView). i.value.task) (before ++ (cond own (x ∷ []) [])))
    × AreNumbered (length rows) (items ++ (cond own (x ∷ []) []))
account-more true rows taken items before x tasks numbers next =
    let f = λ (i : Item ParcelView). i.value.task in (
      ap (λ t. rows ++ t) (map-append f items (x ∷ [])) ∙ (sym (append_assoc rows (map f items) (f x ∷ [])) ∙ (ap (λ t. t ++ f x ∷ []) tasks ∙ sym (map-append f before (x ∷ [])))),
      numbered-more (length rows) items x numbers (
          let n = next refl in
          let all = sym (length-append rows (map f items)) ∙ (ap length tasks ∙ length-map before f) in
          let some = length-map items f in omega (arith, n, all, some)),
    )
account-more false rows taken items before x tasks numbers next =
    let f = λ (i : Item ParcelView). i.value.task in
    (ap (λ t. rows ++ map f t) (append-nil items) ∙ (tasks ∙ ap (map f) (sym (append-nil before))), subst (AreNumbered (length rows)) (sym (append-nil items)) numbers)

more-taken : (n : ℕ) (before : List (Item ParcelView)) (x : Item ParcelView) (k : ℕ) → k < length (items_of n before) → k < length (items_of n (before ++ x ∷ []))
more-taken n before x k less =
    let all = ap length (items-append n before (x ∷ [])) ∙ length-append (items_of n before) (items_of n (x ∷ [])) in omega (arith, less, all)

own-item : (x : Item ParcelView) → items_of x.sender (x ∷ []) ≡ x ∷ []
own-item x = ap (λ b. cond b (x ∷ []) []) (eq-eqb x.sender x.sender refl)

-- An item stands behind those that wait, but for its being listed

pub record Stands (v : LanePortView) (x : Item ParcelView) : Type 0 where
  pub within : x.sender < end_of v.lane.key Timer
  pub accounts : (n : ℕ) → n < end_of v.lane.key Timer → Accounts v (v.waiting.items ++ x ∷ []) n
  pub due : AllByRecursion (IsDue v) v.waiting.items
  pub earlier : AllByRecursion (λ (y : Item ParcelView). (y.sender == x.sender) ≡ true → y.seq < x.seq) v.waiting.items
  pub entries : AllByRecursion (WasTaken v) (state_of v.port).entries
  pub older : AllByRecursion (λ (o : Entry). same_sender (sender_at v.lane.key x.sender) o.from ≡ true → o.seq < x.seq) (state_of v.port).entries
  pub fresh : has_entry (entry (sender_at v.lane.key x.sender) x.seq) (state_of v.port).entries ≡ false
  pub taken : x.seq < length (items_of x.sender v.lane.taken)
  pub rows_fewer : length (rows_from (sender_at v.lane.key x.sender) (reverse v.port.rows)) ≤ x.seq

fresh-entry : (v : LanePortView) (before : List (Item ParcelView)) (x : Item ParcelView) (entries : List Entry) → x.sender < end_of v.lane.key Timer → x.seq ≡ length (items_of x.sender before)
    → AllByRecursion (WasTaken (before_view v before)) entries → has_entry (entry (sender_at v.lane.key x.sender) x.seq) entries ≡ false
fresh-entry v before x [] within next all = refl
fresh-entry v before x (e ∷ entries) within next all =
    let t = all.0 in
    let key = v.lane.key in
    let same : same_sender (sender_at key x.sender) e.from ≡ (x.sender == t.number) = ap (same_sender (sender_at key x.sender)) t.from ∙ apart key x.sender t.number within t.within in
    let differs : same_entry (entry (sender_at key x.sender) x.seq) e ≡ false =
    elim (x.sender == t.number) as (λ b. (x.sender == t.number) ≡ b → (same_sender (sender_at key x.sender) e.from && x.seq == e.seq) ≡ false) [
      | true ↦ λ here.
          let less : e.seq < x.seq = subst (λ k. e.seq < k) (sym next) (subst (λ n. e.seq < length (items_of n before)) (sym (eqb-true x.sender t.number here)) t.taken) in
          rw (same ∙ here, ne_eqb x.seq e.seq (λ equal. omega (arith, less, equal))) refl
      | false ↦ λ other. rw (same ∙ other) refl
    ] refl in
    rw (differs) (fresh-entry v before x entries within next all.1)

-- an entry of the sender is of an earlier task
older-entries : (v : LanePortView) (before : List (Item ParcelView)) (x : Item ParcelView) (entries : List Entry) → x.sender < end_of v.lane.key Timer → x.seq ≡ length (items_of x.sender before)
    → AllByRecursion (WasTaken (before_view v before)) entries → AllByRecursion (λ (o : Entry). same_sender (sender_at v.lane.key x.sender) o.from ≡ true → o.seq < x.seq) entries
older-entries v before x entries within next all =
    let key = v.lane.key in
    all-map (WasTaken (before_view v before)) (λ (o : Entry). same_sender (sender_at key x.sender) o.from ≡ true → o.seq < x.seq) entries (λ o t own.
    let here : (x.sender == t.number) ≡ true = sym (ap (same_sender (sender_at key x.sender)) t.from ∙ apart key x.sender t.number within t.within) ∙ own in
    subst (λ k. o.seq < k) (sym next) (subst (λ n. o.seq < length (items_of n before)) (sym (eqb-true x.sender t.number here)) t.taken)) all

pub stands : (v : LanePortView) (x : Item ParcelView) → Came v x → Stands v x
stands v x came =
    let key = v.lane.key in
    let h = came.body.holds in
    let within = within-lane key x came.fits in
    let next : x.seq ≡ length (items_of x.sender came.before) = came.next ∙ length-map (items_of x.sender came.before) (λ (i : Item ParcelView). i.value) in
    record {
      within = within;
      accounts = λ n inside.
          let a = h.accounts n inside in
          let f = λ (i : Item ParcelView). i.value.task in
          let c = account-more (x.sender == n) (rows_from (sender_at key n) (reverse v.port.rows)) [] (items_of n v.waiting.items) (items_of n came.before) x a.tasks a.numbers
          (λ own. subst (λ k. x.seq ≡ length (items_of k came.before)) (eqb-true x.sender n own) next) in
          record {
            tasks = ap (λ t. rows_from (sender_at key n) (reverse v.port.rows) ++ map f t) (items-append n v.waiting.items (x ∷ []))
                ∙ (c.0 ∙ sym (ap (λ t. map f (items_of n t)) came.taken ∙ ap (map f) (items-append n came.before (x ∷ []))));
            numbers = subst (AreNumbered (length (rows_from (sender_at key n) (reverse v.port.rows)))) (sym (items-append n v.waiting.items (x ∷ []))) c.1;
          };
      due = all-map (IsDue (before_view v came.before)) (IsDue v) v.waiting.items (λ y d. record {
        fits = d.fits;
        listed = d.listed;
        taken = subst (λ t. y.seq < length (items_of y.sender t)) (sym came.taken) (more-taken y.sender came.before x y.seq d.taken);
      }) h.due;
      earlier = all-map (IsDue (before_view v came.before)) (λ (y : Item ParcelView). (y.sender == x.sender) ≡ true → y.seq < x.seq) v.waiting.items
          (λ y d own. subst (λ k. y.seq < k) (sym next) (subst (λ n. y.seq < length (items_of n came.before)) (eqb-true y.sender x.sender own) d.taken)) h.due;
      entries = all-map (WasTaken (before_view v came.before)) (WasTaken v) (state_of v.port).entries (λ e t. record {
        number = t.number;
        within = t.within;
        from = t.from;
        taken = subst (λ l. e.seq < length (items_of t.number l)) (sym came.taken) (more-taken t.number came.before x e.seq t.taken);
      }) h.entries;
      older = older-entries v came.before x (state_of v.port).entries within next h.entries;
      fresh = fresh-entry v came.before x (state_of v.port).entries within next h.entries;
      taken = subst (λ l. x.seq < length (items_of x.sender l)) (sym came.taken) (
          let all = ap length (items-append x.sender came.before (x ∷ [])) ∙ (length-append (items_of x.sender came.before) (items_of x.sender (x ∷ []))
          ∙ ap (λ t. length (items_of x.sender came.before) + length t) (own-item x)) in omega (arith, next, all));
      rows_fewer =
          let a = (h.accounts x.sender within).tasks in
          let f = λ (i : Item ParcelView). i.value.task in
          let all = sym (length-append (rows_from (sender_at key x.sender) (reverse v.port.rows)) (tasks_of x.sender v.waiting.items)) ∙ (ap length a ∙ length-map (items_of x.sender came.before) f) in
          omega (arith, all, next);
    }

-- a task that doesn't suspend its sender stands behind the others
pub plain-behind : (v : LanePortView) (x : Item ParcelView) → Came v x → x.value.task.suspends ≡ false → Holds v (v.waiting.items ++ x ∷ [])
plain-behind v x came plain =
    let s = stands v x came in
    let h = came.body.holds in
    record {
      settled = h.settled;
      table = h.table;
      processes = h.processes;
      workers = h.workers;
      port_processes = h.port_processes;
      senders = h.senders;
      accounts = s.accounts;
      due = all-append (IsDue v) v.waiting.items (x ∷ []) s.due (
        record {
          fits = came.fits;
          listed = ap (λ b. if b then has_entry (entry (sender_at v.lane.key x.sender) x.seq) (state_of v.port).entries
              else not (has_entry (entry (sender_at v.lane.key x.sender) x.seq) (state_of v.port).entries)) plain ∙ ap not s.fresh;
          taken = s.taken;
        },
        tt,
      );
      entries = s.entries;
      falling = h.falling;
      from_ends = h.from_ends;
    }

-- and one that does, once its sender is listed

process-below : (key : Key) (n process : ℕ) → sender_at key n ≡ Process process → process < key.processes
process-below key n process at = subst (IsAmong key.processes) at (among key n)

pub may-list : (v : LanePortView) (x : Item ParcelView) (process : ℕ) → Came v x → sender_at v.lane.key x.sender ≡ Process process → MayList v.port process x.seq
may-list v x process came at =
    let s = stands v x came in
    let h = came.body.holds in
    let below = process-below v.lane.key x.sender process at in
    record {
      among = subst (λ p. process < p) (sym (h.port_processes ∙ h.processes)) below;
      new = subst (λ f. has_entry (entry f x.seq) (state_of v.port).entries ≡ false) at s.fresh;
      later = le-leb (count_of (Process process) (state_of v.port).senders) x.seq (
          let count = counted v.port.opening (reverse v.port.rows) (Process process) in
          let fewer = subst (λ f. length (rows_from f (reverse v.port.rows)) ≤ x.seq) at s.rows_fewer in omega (arith, count, fewer));
    }

other-entry : (key : Key) (n m i k : ℕ) (process : ℕ) (entries : List Entry) → n < end_of key Timer → m < end_of key Timer → sender_at key m ≡ Process process → ((n == m) ≡ true → i < k)
    → has_entry (entry (sender_at key n) i) (entry (Process process) k ∷ entries) ≡ has_entry (entry (sender_at key n) i) entries
other-entry key n m i k process entries within inside at less =
    let same : same_sender (sender_at key n) (Process process) ≡ (n == m) = ap (same_sender (sender_at key n)) (sym at) ∙ apart key n m within inside in
    let differs : (same_sender (sender_at key n) (Process process) && i == k) ≡ false =
    elim (n == m) as (λ b. (n == m) ≡ b → (same_sender (sender_at key n) (Process process) && i == k) ≡ false) [
      | true ↦ λ here. let l = less here in rw (same ∙ here, ne_eqb i k (λ equal. omega (arith, l, equal))) refl
      | false ↦ λ other. rw (same ∙ other) refl
    ] refl in
    ap (λ b. b || has_entry (entry (sender_at key n) i) entries) differs

pub listed-behind : (v : LanePortView) (x : Item ParcelView) (port : RecordedView) (process : ℕ) → Came v x → x.value.task.suspends ≡ true → sender_at v.lane.key x.sender ≡ Process process
    → IsSettled port → IsSameRecorded v.port port → port.rows ≡ v.port.rows ++ Listed (Process process) x.seq ∷ []
    → Holds (record v { port = port }) (v.waiting.items ++ x ∷ [])
listed-behind v x port process came suspends at settled same rows =
    let key = v.lane.key in
    let s = stands v x came in
    let h = came.body.holds in
    let row = Listed (Process process) x.seq in
    let history : reverse port.rows ≡ row ∷ reverse v.port.rows = ap reverse rows ∙ rows-more v.port.rows row in
    let entries : (state_of port).entries ≡ entry (Process process) x.seq ∷ (state_of v.port).entries =
    ap (λ o. (state o (reverse port.rows)).entries) same.opening ∙ ap (λ r. (state v.port.opening r).entries) history in
    let told : (n : ℕ) → rows_from (sender_at key n) (reverse port.rows) ≡ rows_from (sender_at key n) (reverse v.port.rows) = λ n. ap (rows_from (sender_at key n)) history in
    let own : same_sender (sender_at key x.sender) (Process process) ≡ true =
    ap (same_sender (sender_at key x.sender)) (sym at) ∙ (apart key x.sender x.sender s.within s.within ∙ eq-eqb x.sender x.sender refl) in
    record {
      settled = settled;
      table = h.table ∙ sym same.seat.table;
      processes = h.processes;
      workers = h.workers;
      port_processes = ap (λ o. o.processes) same.opening ∙ h.port_processes;
      senders = h.senders;
      accounts = λ n within.
          let a = s.accounts n within in
          record {
            tasks = ap (λ t. t ++ tasks_of n (v.waiting.items ++ x ∷ [])) (told n) ∙ a.tasks;
            numbers = subst (λ t. AreNumbered (length t) (items_of n (v.waiting.items ++ x ∷ []))) (sym (told n)) a.numbers;
          };
      due = all-append (IsDue (record v { port = port })) v.waiting.items (x ∷ [])
          (both-map (IsDue v) (λ (y : Item ParcelView). (y.sender == x.sender) ≡ true → y.seq < x.seq) (IsDue (record v { port = port })) v.waiting.items (λ y d less. record {
            fits = d.fits;
            listed = ap (λ b. if y.value.task.suspends then b else not b)
                (ap (has_entry (entry (sender_at key y.sender) y.seq)) entries
                ∙ other-entry key y.sender x.sender y.seq x.seq process (state_of v.port).entries (within-lane key y d.fits) s.within at less) ∙ d.listed;
            taken = d.taken;
          }) s.due s.earlier) (
            record {
              fits = came.fits;
              listed = ap (λ b. if b then has_entry (entry (sender_at key x.sender) x.seq) (state_of port).entries
                  else not (has_entry (entry (sender_at key x.sender) x.seq) (state_of port).entries)) suspends
                  ∙ (ap (has_entry (entry (sender_at key x.sender) x.seq)) entries
                  ∙ (ap (λ b. (b && x.seq == x.seq) || has_entry (entry (sender_at key x.sender) x.seq) (state_of v.port).entries) own
                  ∙ ap (λ b. b || has_entry (entry (sender_at key x.sender) x.seq) (state_of v.port).entries) (eq-eqb x.seq x.seq refl)));
              taken = s.taken;
            },
            tt,
          );
      entries = subst (AllByRecursion (WasTaken (record v { port = port }))) (sym entries) (
        record { number = x.sender; within = s.within; from = sym at; taken = s.taken },
        all-map (WasTaken v) (WasTaken (record v { port = port })) (state_of v.port).entries (λ e t. record { number = t.number; within = t.within; from = t.from; taken = t.taken }) s.entries,
      );
      falling = subst AreFalling (sym entries) (
        subst (λ f. AllByRecursion (λ (o : Entry). same_sender f o.from ≡ true → o.seq < x.seq) (state_of v.port).entries) at s.older,
        h.falling,
      );
      from_ends = subst (AllByRecursion (HasEnd key)) (sym (ap (λ o. (state o (reverse port.rows)).senders) same.opening ∙ ap (λ r. (state v.port.opening r).senders) history)) h.from_ends;
    }
  where
    both-map : {X : Type 0} (P Q R : X → Type 0) (xs : List X) → ((x : X) → P x → Q x → R x) → AllByRecursion P xs → AllByRecursion Q xs → AllByRecursion R xs
    both-map P Q R [] f p q = tt
    both-map P Q R (x ∷ xs) f p q = (f x p.0 q.0, both-map P Q R xs f p.1 q.1)

-- What one call leaves of a process and its ports.
use Rattle.std.proofs.Common.{arith, ◌≡◌, ◌≢◌, ℕ, ◌+◌, ◌<◌, ◌≤◌, List, [], ◌∷◌, ◌++◌, length, Bool, true, false, cond, eqb, ◌&&◌, Some, refl, sym, ap, ◌∙◌, subst}
use Rattle.std.specs.Prelude.{map, slice_index_or}
use Rattle.std.proofs.lemmas.List.{append-nil}
use Rattle.std.proofs.lemmas.Bool.Decides.{nat_tests}
use Rattle.port_words.specs.busy.Known.{SendKnown}
use Rattle.port_model.specs.Signals.{is_command}
use Rattle.suspend_list.specs.declared.note.StopNote.{StopNote}
use Rattle.process_receipts.specs.declared.receipt.Outcome.{Outcome}
use Rattle.process_receipts.specs.declared.receipt.Outcome.TheVariants.{Accepted, Suspended}
use Rattle.process_receipts.specs.declared.receipt.Receipt.{Receipt}
use Rattle.process_receipts.specs.Asks.{Asked, is_suspended, task_of}
use Rattle.process_receipts.specs.Receipts.{IsReceiptOf, accepted, adds_shown, is_put, shown_by, soft_at, stats_shown, words_shown, word_list, IsSublist}
use Rattle.process_receipts.specs.Ledgers.{kept_adds, shown_add, IsFree, IsWaiting}
use Rattle.process_end.specs.Views.{LaneEnd, ProcView, calls_of}
use Rattle.process_end.specs.Steps.{tasks_of, HasSent, HasStepped}
use Rattle.process_end.specs.Calls.{HasAsked, HasLooked, TouchesPort}
use Rattle.process_end.specs.Ports.{ArePorts, IsPort, AllFree, HasStopped}
use Rattle.process_end.proofs.Adds.{split}
use Rattle.process_end.proofs.Keeps.{SeatKeeps, SeatMisses, keeps, misses, put_add}

same-from : (n m : ℕ) → eqb n m ≡ true → n ≡ m
same-from n m e = grind (arith, nat_tests)

apart-from : (n m : ℕ) → eqb n m ≡ false → m ≢ n
apart-from n m e = grind (arith, nat_tests)

-- a process after a call with this receipt
abbrev pub after : ProcView → List LaneEnd → List SendKnown → Receipt → ProcView
after old lanes seats receipt = record old { lanes = lanes; seats = seats; receipts = receipt ∷ old.receipts }

-- and after one that has none
abbrev pub after_miss : ProcView → List SendKnown → ℕ → ProcView
after_miss old seats undone = record old { seats = seats; undone = undone }

-- what a call with a receipt did
pub record PortMade (old : ProcView) (lanes : List LaneEnd) (seats : List SendKnown) (ask : Asked) (receipt : Receipt) : Type 0 where
  pub ports : ArePorts old
  pub free : AllFree old
  pub within : ask.port < length old.lanes
  pub touched : TouchesPort ask.port old.lanes lanes old.seats seats
  pub is_receipt : (d : LaneEnd) → IsReceiptOf (calls_of old) (soft_at ask.port old.soft) (length (tasks_of (slice_index_or old.lanes ask.port d))) ask receipt
  pub sent : (d : LaneEnd) → HasSent ask (slice_index_or old.lanes ask.port d) (slice_index_or lanes ask.port d) receipt.outcome
  pub steps : (d : SendKnown) → HasStepped ask (slice_index_or old.seats ask.port d) (slice_index_or seats ask.port d) receipt.outcome receipt.stat receipt.msgq

seat-made : (old : ProcView) (lanes : List LaneEnd) (seats : List SendKnown) (ask : Asked) (receipt : Receipt) → PortMade old lanes seats ask receipt → LaneEnd → (e : SendKnown)
    → SeatKeeps ask (slice_index_or old.seats ask.port e) (slice_index_or seats ask.port e) receipt.outcome receipt.stat receipt.msgq
seat-made old lanes seats ask receipt m d e =
    let port = m.ports.each ask.port d e m.within in
    keeps (calls_of old) (soft_at ask.port old.soft) ask (slice_index_or old.seats ask.port e) (slice_index_or seats ask.port e) receipt.outcome receipt.stat receipt.msgq
    (m.steps e) (m.is_receipt d).cause port.placed port.once (m.free ask.port e m.within)

-- a fact of each place, from that of the port and those elsewhere
pub each-place : (P : ℕ → Type 0) (port : ℕ) → P port → ((k : ℕ) → k ≢ port → P k) → (k : ℕ) → P k
each-place P port here there k = split (eqb port k) (λ e. subst P (same-from port k e) here) (λ e. there k (apart-from port k e))

tasks-sent : (ask : Asked) (lane new : LaneEnd) (outcome : Outcome) → HasSent ask lane new outcome → tasks_of new ≡ tasks_of lane ++ cond (is_put outcome) (task_of ask outcome ∷ []) []
tasks-sent ask lane new Accepted h = h.tasks
tasks-sent ask lane new Suspended h = h.tasks
tasks-sent ask lane new outcome h = ap tasks_of h ∙ sym (append-nil (tasks_of lane))

same-name : (ask : Asked) (lane new : LaneEnd) (outcome : Outcome) → HasSent ask lane new outcome → (new.number ≡ lane.number) × (new.key ≡ lane.key)
same-name ask lane new Accepted h = (ap (λ v. v.number) h.same, ap (λ v. v.key) h.same)
same-name ask lane new Suspended h = (ap (λ v. v.number) h.same, ap (λ v. v.key) h.same)
same-name ask lane new outcome h = (ap (λ v. v.number) h, ap (λ v. v.key) h)

here : (n : ℕ) → eqb n n ≡ true
here n = grind (arith, nat_tests)

elsewhere : (n m : ℕ) → m ≢ n → eqb n m ≡ false
elsewhere n m e = grind (arith, nat_tests)

here-only : {X : Type 0} (port : ℕ) (b : Bool) (xs : List X) → cond (eqb port port && b) xs [] ≡ cond b xs []
here-only port b xs = rw (here port) refl

pub ports-made : (old : ProcView) (lanes : List LaneEnd) (seats : List SendKnown) (ask : Asked) (receipt : Receipt) → PortMade old lanes seats ask receipt → ArePorts (after old lanes seats receipt)
ports-made old lanes seats ask receipt m = record {
  seats = m.touched.many.1 ∙ (m.ports.seats ∙ sym m.touched.many.0);
  soft = m.ports.soft ∙ sym m.touched.many.0;
  each = λ k d e within. each-place
      (λ j. j < length old.lanes → IsPort old.number (calls_of (after old lanes seats receipt)) (slice_index_or lanes j d) (slice_index_or seats j e)) ask.port
      (λ w. let port = m.ports.each ask.port d e w in
      let seat = seat-made old lanes seats ask receipt m d e in
      let name = same-name ask (slice_index_or old.lanes ask.port d) (slice_index_or lanes ask.port d) receipt.outcome (m.sent d) in
      record {
        end = name.0 ∙ port.end;
        process = rw name.1 port.process;
        table = ap (λ v. v.table) name.1 ∙ (port.table ∙ sym seat.table);
        few = let more = seat.few in let before = port.few in omega arith;
        placed = seat.placed;
        once = seat.once;
      })
      (λ j apart w. let port = m.ports.each j d e w in
      rw (m.touched.lanes_same j d apart, m.touched.seats_same j e apart)
      (record { end = port.end; process = port.process; table = port.table; few = (let before = port.few in omega arith); placed = port.placed; once = port.once }))
      k (subst (λ n. k < n) m.touched.many.0 within);
  undone = m.ports.undone;
  told = subst (λ n. old.told ≤ n) (sym m.touched.many.0) m.ports.told;
}

pub free-made : (old : ProcView) (lanes : List LaneEnd) (seats : List SendKnown) (ask : Asked) (receipt : Receipt) → PortMade old lanes seats ask receipt → LaneEnd
    → is_suspended receipt.outcome ≡ false → AllFree (after old lanes seats receipt)
free-made old lanes seats ask receipt m d calm = λ k e within. each-place (λ j. j < length old.lanes → IsFree (slice_index_or seats j e).sender) ask.port
    (λ w. (seat-made old lanes seats ask receipt m d e).free calm)
    (λ j apart w. rw (m.touched.seats_same j e apart) (m.free j e w))
    k (subst (λ n. k < n) m.touched.many.0 within)

pub stopped-made : (old : ProcView) (lanes : List LaneEnd) (seats : List SendKnown) (ask : Asked) (receipt : Receipt) (note : StopNote) → PortMade old lanes seats ask receipt → LaneEnd
    → is_suspended receipt.outcome ≡ true → receipt.msgq ≡ Some note.msgq → note.port ≡ ask.port
    → HasStopped (record { proc = after old lanes seats receipt; note = note; resumed = false })
stopped-made old lanes seats ask receipt note m d stops word port = record {
  port = subst (λ n. n < length lanes) (sym port) (subst (λ n. ask.port < n) (sym m.touched.many.0) m.within);
  waiting = λ e. subst (λ n. IsWaiting note.msgq (slice_index_or seats n e).sender) (sym port) ((seat-made old lanes seats ask receipt m d e).waiting note.msgq word stops);
  others = λ k e within apart. let away : k ≢ ask.port = subst (λ n. k ≢ n) port apart in
      rw (m.touched.seats_same k e away) (m.free k e (subst (λ n. k < n) m.touched.many.0 within));
}

calls-are : (old : ProcView) → old.undone ≡ 0 → calls_of old ≡ length old.receipts
calls-are old none = omega arith

-- the calls that the process made, with one more
pub asked-made : (old : ProcView) (lanes : List LaneEnd) (seats : List SendKnown) (ask : Asked) (receipt : Receipt) → PortMade old lanes seats ask receipt → LaneEnd
    → (asks : List Asked) → HasAsked asks old → HasAsked (ask ∷ asks) (after old lanes seats receipt)
asked-made old lanes seats ask receipt m d asks h =
    let many = m.touched.many.0 in
    let is-port : receipt.port ≡ ask.port = (m.is_receipt d).port in
    record {
      receipts = λ none. (
        subst (λ n. IsReceiptOf n (soft_at ask.port old.soft) (length (accepted ask.port asks old.receipts)) ask receipt) (calls-are old none)
            (subst (λ ts. IsReceiptOf (calls_of old) (soft_at ask.port old.soft) (length ts) ask receipt) (h.sent ask.port d m.within) (m.is_receipt d)),
        h.receipts none,
      );
      sent = λ k e within. each-place
          (λ j. j < length old.lanes → tasks_of (slice_index_or lanes j e) ≡ accepted j asks old.receipts ++ cond (eqb ask.port j && is_put receipt.outcome) (task_of ask receipt.outcome ∷ []) []) ask.port
          (λ w. tasks-sent ask (slice_index_or old.lanes ask.port e) (slice_index_or lanes ask.port e) receipt.outcome (m.sent e)
          ∙ (ap (λ ts. ts ++ cond (is_put receipt.outcome) (task_of ask receipt.outcome ∷ []) []) (h.sent ask.port e w)
          ∙ ap (λ ts. accepted ask.port asks old.receipts ++ ts) (sym (here-only ask.port (is_put receipt.outcome) (task_of ask receipt.outcome ∷ [])))))
          (λ j apart w. rw (elsewhere ask.port j apart) (ap tasks_of (m.touched.lanes_same j e apart) ∙ (h.sent j e w ∙ sym (append-nil (accepted j asks old.receipts)))))
          k (subst (λ n. k < n) many within);
      undone = λ k e within. each-place (λ j. j < length old.lanes → length (slice_index_or seats j e).sender.ledger.undone ≤ old.undone) ask.port
          (λ w. subst (λ n. n ≤ old.undone) (sym (seat-made old lanes seats ask receipt m d e).undone) (h.undone ask.port e w))
          (λ j apart w. rw (m.touched.seats_same j e apart) (h.undone j e w))
          k (subst (λ n. k < n) many within);
      adds = λ k e within. each-place
          (λ j. j < length old.lanes → map shown_add (kept_adds (slice_index_or seats j e).sender.ledger)
          ≡ adds_shown j asks old.receipts ++ cond (eqb ask.port j && is_put receipt.outcome) (shown_by ask receipt.msgq) []) ask.port
          (λ w. (seat-made old lanes seats ask receipt m d e).adds
          ∙ (ap (λ ts. ts ++ put_add ask receipt.outcome receipt.msgq) (h.adds ask.port e w)
          ∙ ap (λ ts. adds_shown ask.port asks old.receipts ++ ts) (sym (here-only ask.port (is_put receipt.outcome) (shown_by ask receipt.msgq)))))
          (λ j apart w. rw (elsewhere ask.port j apart)
          (ap (λ v. map shown_add (kept_adds v.sender.ledger)) (m.touched.seats_same j e apart) ∙ (h.adds j e w ∙ sym (append-nil (adds_shown j asks old.receipts)))))
          k (subst (λ n. k < n) many within);
      stats = λ k e within. subst (λ p. IsSublist (stats_shown k old.receipts ++ cond (eqb p k) (word_list receipt.stat) []) (slice_index_or seats k e).sender.stats) (sym is-port)
          (each-place (λ j. j < length old.lanes → IsSublist (stats_shown j old.receipts ++ cond (eqb ask.port j) (word_list receipt.stat) []) (slice_index_or seats j e).sender.stats) ask.port
          (λ w. rw (here ask.port) ((seat-made old lanes seats ask receipt m d e).stats (stats_shown ask.port old.receipts) (h.stats ask.port e w)))
          (λ j apart w. rw (elsewhere ask.port j apart, append-nil (stats_shown j old.receipts), m.touched.seats_same j e apart) (h.stats j e w))
          k (subst (λ n. k < n) many within));
      words = λ k e within. subst (λ p. IsSublist (words_shown k old.receipts ++ cond (eqb p k) (word_list receipt.msgq) []) (slice_index_or seats k e).sender.words) (sym is-port)
          (each-place (λ j. j < length old.lanes → IsSublist (words_shown j old.receipts ++ cond (eqb ask.port j) (word_list receipt.msgq) []) (slice_index_or seats j e).sender.words) ask.port
          (λ w. rw (here ask.port) ((seat-made old lanes seats ask receipt m d e).words (words_shown ask.port old.receipts) (h.words ask.port e w)))
          (λ j apart w. rw (elsewhere ask.port j apart, append-nil (words_shown j old.receipts), m.touched.seats_same j e apart) (h.words j e w))
          k (subst (λ n. k < n) many within));
    }

-- what a call without a receipt did
pub record PortMissed (old : ProcView) (seats : List SendKnown) (undone : ℕ) (ask : Asked) : Type 0 where
  pub ports : ArePorts old
  pub free : AllFree old
  pub within : ask.port < length old.lanes
  pub touched : TouchesPort ask.port old.lanes old.lanes old.seats seats
  pub looked : (stat : ℕ) × ((d : SendKnown) → HasLooked ask stat (slice_index_or old.seats ask.port d) (slice_index_or seats ask.port d))
  pub counts : undone ≡ old.undone + cond (is_command ask.signal) 1 0
  pub few : undone ≤ 131072

seat-missed : (old : ProcView) (seats : List SendKnown) (undone : ℕ) (ask : Asked) → PortMissed old seats undone ask → LaneEnd → (e : SendKnown)
    → SeatMisses (slice_index_or old.seats ask.port e) (slice_index_or seats ask.port e) (cond (is_command ask.signal) 1 0)
seat-missed old seats undone ask m d e =
    misses ask (slice_index_or old.seats ask.port e) (slice_index_or seats ask.port e) m.looked.0 (m.looked.1 e) (m.ports.each ask.port d e m.within).placed (m.free ask.port e m.within)

pub ports-missed : (old : ProcView) (seats : List SendKnown) (undone : ℕ) (ask : Asked) → PortMissed old seats undone ask → ArePorts (after_miss old seats undone)
ports-missed old seats undone ask m = record {
  seats = m.touched.many.1 ∙ m.ports.seats;
  soft = m.ports.soft;
  each = λ k d e within. each-place
      (λ j. j < length old.lanes → IsPort old.number (length old.receipts + undone) (slice_index_or old.lanes j d) (slice_index_or seats j e)) ask.port
      (λ w. let port = m.ports.each ask.port d e w in
      let seat = seat-missed old seats undone ask m d e in
      record {
        end = port.end;
        process = port.process;
        table = port.table ∙ sym seat.table;
        few = (let more = seat.few in let before = port.few in let counts = m.counts in omega arith);
        placed = seat.placed;
        once = (λ period odd. rw seat.kept (port.once period odd));
      })
      (λ j apart w. let port = m.ports.each j d e w in
      rw (m.touched.seats_same j e apart)
      (record { end = port.end; process = port.process; table = port.table; few = (let before = port.few in let counts = m.counts in omega arith); placed = port.placed; once = port.once }))
      k within;
  undone = m.few;
  told = m.ports.told;
}

pub free-missed : (old : ProcView) (seats : List SendKnown) (undone : ℕ) (ask : Asked) → PortMissed old seats undone ask → LaneEnd → AllFree (after_miss old seats undone)
free-missed old seats undone ask m d = λ k e within. each-place (λ j. j < length old.lanes → IsFree (slice_index_or seats j e).sender) ask.port
    (λ w. (seat-missed old seats undone ask m d e).free)
    (λ j apart w. rw (m.touched.seats_same j e apart) (m.free j e w))
    k within

pub asked-missed : (old : ProcView) (seats : List SendKnown) (undone : ℕ) (ask : Asked) → PortMissed old seats undone ask → LaneEnd
    → (asks : List Asked) → HasAsked asks old → HasAsked asks (after_miss old seats undone)
asked-missed old seats undone ask m d asks h = record {
  receipts = λ none. h.receipts (let counts = m.counts in omega arith);
  sent = h.sent;
  undone = λ k e within. each-place (λ j. j < length old.lanes → length (slice_index_or seats j e).sender.ledger.undone ≤ undone) ask.port
      (λ w. let more = (seat-missed old seats undone ask m d e).undone in let before = h.undone ask.port e w in let counts = m.counts in omega arith)
      (λ j apart w. rw (m.touched.seats_same j e apart) (let before = h.undone j e w in let counts = m.counts in omega arith))
      k within;
  adds = λ k e within. each-place (λ j. j < length old.lanes → map shown_add (kept_adds (slice_index_or seats j e).sender.ledger) ≡ adds_shown j asks old.receipts) ask.port
      (λ w. ap (map shown_add) (seat-missed old seats undone ask m d e).kept ∙ h.adds ask.port e w)
      (λ j apart w. ap (λ v. map shown_add (kept_adds v.sender.ledger)) (m.touched.seats_same j e apart) ∙ h.adds j e w)
      k within;
  stats = λ k e within. each-place (λ j. j < length old.lanes → IsSublist (stats_shown j old.receipts) (slice_index_or seats j e).sender.stats) ask.port
      (λ w. (seat-missed old seats undone ask m d e).stats (stats_shown ask.port old.receipts) (h.stats ask.port e w))
      (λ j apart w. rw (m.touched.seats_same j e apart) (h.stats j e w))
      k within;
  words = λ k e within. each-place (λ j. j < length old.lanes → IsSublist (words_shown j old.receipts) (slice_index_or seats j e).sender.words) ask.port
      (λ w. (seat-missed old seats undone ask m d e).words (words_shown ask.port old.receipts) (h.words ask.port e w))
      (λ j apart w. rw (m.touched.seats_same j e apart) (h.words j e w))
      k within;
}

-- One call, by the fields of the process that makes it.
use Rattle.std.proofs.Common.{arith, ◌≡◌, inl, inr, ℕ, ◌+◌, ◌<◌, ◌≤◌, List, [], ◌∷◌, ◌++◌, length, Bool, true, false, cond, Some, None, Result, Ok, Err, refl, sym, ap, ◌∙◌, subst}
use Rattle.std.specs.Prelude.{reverse, slice_index_or, unwrap_or}
use Rattle.std.specs.Result.{OnErr}
use Rattle.std.proofs.lemmas.List.{reverse-append, length-reverse, get_or_read}
use Rattle.task_queue.specs.Ends.{Taking}
use Rattle.port_words.specs.busy.Known.{SendKnown}
use Rattle.port_model.specs.declared.mail.Mail.{Mail}
use Rattle.port_model.specs.declared.signal.Sender.TheVariants.{Process}
use Rattle.port_model.specs.Signals.{is_command}
use Rattle.port_lanes.specs.port_history.Laws.{may_send}
use Rattle.port_lanes.specs.Parcels.{names_below}
use Rattle.suspend_list.specs.declared.note.StopNote.{StopNote}
use Rattle.process_receipts.specs.declared.receipt.Outcome.{Outcome}
use Rattle.process_receipts.specs.declared.receipt.Receipt.{Receipt}
use Rattle.process_receipts.specs.Asks.{Asked, is_suspended}
use Rattle.process_receipts.specs.Receipts.{HasCause, IsReceiptOf, MayLook, soft_at}
use Rattle.process_end.specs.Views.{LaneEnd, ProcView, calls_of, proc_view}
use Rattle.process_end.specs.Steps.{tasks_of, HasSent, HasStepped, MaySend}
use Rattle.process_end.specs.Calls.{HasLooked, HasMade, HasMissed, TouchesPort}
use Rattle.process_end.specs.Ports.{ArePorts, AllFree, HasStopped}
use Rattle.process_end.proofs.Causes.{command-stays, no-step, not-put, not-sent, word-left}
use Rattle.process_end.proofs.Lanes.{sent-at, with-lane}
use Rattle.process_end.proofs.Made.{PortMade, PortMissed, after, after_miss, asked-made, asked-missed, free-made, free-missed, ports-made, ports-missed, stopped-made}

-- what a call with a receipt leaves
pub record CallMade (old new : ProcView) (ask : Asked) (receipt : Receipt) : Type 0 where
  pub ports : ArePorts new
  pub made : HasMade old ask new receipt
  pub free : is_suspended receipt.outcome ≡ false → AllFree new
  pub stopped : (note : StopNote) → is_suspended receipt.outcome ≡ true → note.msgq ≡ unwrap_or receipt.msgq 0 → note.port ≡ ask.port
      → HasStopped (record { proc = new; note = note; resumed = false })

port-call : (old : ProcView) (lanes : List LaneEnd) (seats : List SendKnown) (ask : Asked) (receipt : Receipt) → PortMade old lanes seats ask receipt
    → CallMade old (after old lanes seats receipt) ask receipt
port-call old lanes seats ask receipt m = with-lane old.lanes ask.port m.within (λ d. record {
  ports = ports-made old lanes seats ask receipt m;
  made = record {
    is_receipt = subst (λ n. IsReceiptOf (calls_of old) (soft_at ask.port old.soft) n ask receipt) (sym (sent-at old.lanes ask.port d m.within)) (m.is_receipt d);
    rest = refl;
    touched = m.touched;
    sent = m.sent;
    steps = m.steps;
    asked = asked-made old lanes seats ask receipt m d;
  };
  free = free-made old lanes seats ask receipt m d;
  stopped = λ note stops word port. stopped-made old lanes seats ask receipt note m d stops
      (word-left (calls_of old) (soft_at ask.port old.soft) ask receipt.outcome receipt.stat receipt.msgq (m.is_receipt d).cause stops ∙ ap Some (sym word)) port;
})

view-after : (number : ℕ) (mailbox : Taking Mail (Unit {0})) (lanes more_lanes : List LaneEnd) (seats more_seats : List SendKnown) (soft : List Bool) (receipts items : List Receipt)
    (undone told : ℕ) (receipt : Receipt) → items ≡ receipts ++ receipt ∷ []
    → proc_view number mailbox more_lanes more_seats soft items undone told ≡ after (proc_view number mailbox lanes seats soft receipts undone told) more_lanes more_seats receipt
view-after number mailbox lanes more_lanes seats more_seats soft receipts items undone told receipt e =
    let view : List Receipt → ProcView = λ rs. record { number = number; mailbox = mailbox; lanes = more_lanes; seats = more_seats; soft = soft; receipts = rs; undone = undone; told = told } in
    ap (λ rs. view (reverse rs)) e ∙ ap view (reverse-append receipts (receipt ∷ []))

pub call-made : (old : ProcView) (number : ℕ) (mailbox : Taking Mail (Unit {0})) (lanes more_lanes : List LaneEnd) (seats more_seats : List SendKnown) (soft : List Bool)
    (receipts items : List Receipt) (undone told : ℕ) (ask : Asked) (receipt : Receipt) → proc_view number mailbox lanes seats soft receipts undone told ≡ old
    → items ≡ receipts ++ receipt ∷ [] → PortMade (proc_view number mailbox lanes seats soft receipts undone told) more_lanes more_seats ask receipt
    → CallMade old (proc_view number mailbox more_lanes more_seats soft items undone told) ask receipt
call-made old number mailbox lanes more_lanes seats more_seats soft receipts items undone told ask receipt view e m =
    subst (λ o. CallMade o (proc_view number mailbox more_lanes more_seats soft items undone told) ask receipt) view
    (subst (λ n. CallMade (proc_view number mailbox lanes seats soft receipts undone told) n ask receipt)
    (sym (view-after number mailbox lanes more_lanes seats more_seats soft receipts items undone told receipt e))
    (port-call (proc_view number mailbox lanes seats soft receipts undone told) more_lanes more_seats ask receipt m))

pub refused-port : (p : ProcView) (ask : Asked) (outcome : Outcome) (calls : ℕ) (soft : Bool) → ArePorts p → AllFree p → ask.port < length p.lanes
    → calls ≡ calls_of p → soft ≡ soft_at ask.port p.soft → HasCause calls soft ask outcome None None
    → PortMade p p.lanes p.seats ask (record { line = ask.line; port = ask.port; seq = None; stat = None; msgq = None; outcome = outcome })
refused-port p ask outcome calls soft ports free within c s cause = record {
  ports = ports;
  free = free;
  within = within;
  touched = record { lanes_same = λ k d apart. refl; seats_same = λ k d apart. refl; many = (refl, refl) };
  is_receipt = λ d. record {
    line = refl;
    port = refl;
    seq = rw (not-put calls soft ask outcome cause) refl;
    cause = subst (λ n. HasCause n (soft_at ask.port p.soft) ask outcome None None) c (subst (λ b. HasCause calls b ask outcome None None) s cause);
  };
  sent = λ d. not-sent ask (slice_index_or p.lanes ask.port d) outcome (not-put calls soft ask outcome cause);
  steps = λ d. no-step ask (slice_index_or p.seats ask.port d) outcome;
}

pub may-look : (p : ProcView) (ask : Asked) (calls : ℕ) (soft : Bool) → calls ≡ calls_of p → soft ≡ soft_at ask.port p.soft → MayLook calls soft ask
    → MayLook (calls_of p) (soft_at ask.port p.soft) ask
may-look p ask calls soft c s may = subst (λ n. MayLook n (soft_at ask.port p.soft) ask) c (subst (λ b. MayLook calls b ask) s may)

pub calls-are : (number : ℕ) (mailbox : Taking Mail (Unit {0})) (lanes : List LaneEnd) (seats : List SendKnown) (soft : List Bool) (receipts : List Receipt) (undone told n : ℕ)
    → n ≡ length receipts → n + undone ≡ calls_of (proc_view number mailbox lanes seats soft receipts undone told)
calls-are number mailbox lanes seats soft receipts undone told n e = ap (λ m. m + undone) (e ∙ sym (length-reverse receipts))

pub may-send : (p : ProcView) (ask : Asked) (soft : Bool) (d : LaneEnd) (e : SendKnown) → ArePorts p → ask.port < length p.lanes → MayLook (calls_of p) soft ask
    → may_send (Process p.number) ask.signal ≡ true → names_below (slice_index_or p.lanes ask.port d).key.processes ask.signal ≡ true
    → MaySend ask.signal (slice_index_or p.lanes ask.port d) (slice_index_or p.seats ask.port e)
may-send p ask soft d e ports within may sends named =
    let port = ports.each ask.port d e within in
    record {
      may = record { process = rw port.end port.process; sends = sends; named = named };
      few = λ c. (let before = port.few in let calls = may.few (command-stays ask.signal c) in omega arith);
      table = port.table;
    }

-- what a call without a receipt leaves
pub record CallMissed (old new : ProcView) (ask : Asked) : Type 0 where
  pub ports : ArePorts new
  pub missed : HasMissed old ask new
  pub free : AllFree new

pub none-more : (n : ℕ) → n + 0 ≡ n
none-more n = omega arith

port-miss : (old : ProcView) (seats : List SendKnown) (undone : ℕ) (ask : Asked) → PortMissed old seats undone ask → CallMissed old (after_miss old seats undone) ask
port-miss old seats undone ask m = with-lane old.lanes ask.port m.within (λ d. record {
  ports = ports-missed old seats undone ask m;
  missed = record {
    rest = refl;
    touched = m.touched;
    steps = inr (m.looked.0, m.looked.1, (λ c. m.counts ∙ rw c refl), (λ c. m.counts ∙ (rw c (none-more old.undone))));
    asked = asked-missed old seats undone ask m d;
  };
  free = free-missed old seats undone ask m d;
})

pub call-missed : (old : ProcView) (number : ℕ) (mailbox : Taking Mail (Unit {0})) (lanes more_lanes : List LaneEnd) (seats more_seats : List SendKnown) (soft : List Bool)
    (receipts items : List Receipt) (undone more_undone told : ℕ) (ask : Asked) → proc_view number mailbox lanes seats soft receipts undone told ≡ old
    → items ≡ receipts → more_lanes ≡ lanes → PortMissed (proc_view number mailbox lanes seats soft receipts undone told) more_seats more_undone ask
    → CallMissed old (proc_view number mailbox more_lanes more_seats soft items more_undone told) ask
call-missed old number mailbox lanes more_lanes seats more_seats soft receipts items undone more_undone told ask view e f m =
    subst (λ o. CallMissed o (proc_view number mailbox more_lanes more_seats soft items more_undone told) ask) view
    (subst (λ rs. CallMissed (proc_view number mailbox lanes seats soft receipts undone told) (proc_view number mailbox more_lanes more_seats soft rs more_undone told) ask) (sym e)
    (subst (λ ls. CallMissed (proc_view number mailbox lanes seats soft receipts undone told) (proc_view number mailbox ls more_seats soft receipts more_undone told) ask) (sym f)
    (port-miss (proc_view number mailbox lanes seats soft receipts undone told) more_seats more_undone ask m)))

pub nothing-made : (old new : ProcView) (ask : Asked) → new ≡ old → ArePorts old → AllFree old → CallMissed old new ask
nothing-made old new ask e ports free = subst (λ n. CallMissed old n ask) (sym e) (record {
  ports = ports;
  missed = record {
    rest = refl;
    touched = record { lanes_same = λ k d apart. refl; seats_same = λ k d apart. refl; many = (refl, refl) };
    steps = inl refl;
    asked = λ asks h. h;
  };
  free = free;
})

pub on-err : {T E Q : Type 0} (r : Result T E) → Q → OnErr r Q
on-err (Ok x) q = tt
on-err (Err e) q = q

-- a call that was refused without a look, by what its function knows
pub refused-call : (old : ProcView) (number : ℕ) (mailbox : Taking Mail (Unit {0})) (lanes : List LaneEnd) (seats : List SendKnown) (soft : List Bool) (receipts items : List Receipt) (undone told n : ℕ) (soft_read : Bool) (ask : Asked) (outcome : Outcome) (receipt : Receipt)
    → (proc_view number mailbox lanes seats soft receipts undone told) ≡ old → ArePorts (proc_view number mailbox lanes seats soft receipts undone told) → AllFree old → ask.port < length old.lanes
    → n ≡ length receipts → soft_read ≡ slice_index_or soft ask.port soft_read → HasCause (n + undone) soft_read ask outcome None None
    → receipt ≡ record { line = ask.line; port = ask.port; seq = None; stat = None; msgq = None; outcome = outcome } → items ≡ receipts ++ receipt ∷ []
    → CallMade old (proc_view number mailbox lanes seats soft items undone told) ask receipt
refused-call old number mailbox lanes seats soft receipts items undone told n soft_read ask outcome receipt view ports free within count read cause is e =
    let p : ProcView = proc_view number mailbox lanes seats soft receipts undone told in
    let inside : ask.port < length lanes = subst (λ v. ask.port < length v.lanes) (sym view) within in
    call-made old number mailbox lanes lanes seats seats soft receipts items undone told ask receipt view e
    (subst (PortMade p lanes seats ask) (sym is)
    (refused-port p ask outcome (n + undone) soft_read ports (subst AllFree (sym view) free) inside
    (calls-are number mailbox lanes seats soft receipts undone told n count)
    (get_or_read soft ask.port soft_read (subst (λ k. ask.port < k) (sym ports.soft) inside) read false) cause))

-- and one that looked at its port and has a receipt
pub sent-call : (old : ProcView) (number : ℕ) (mailbox : Taking Mail (Unit {0})) (lanes : List LaneEnd) (seats : List SendKnown) (soft : List Bool) (receipts items : List Receipt) (undone told n : ℕ) (soft_read : Bool) (ask : Asked) (receipt : Receipt) (more_lanes : List LaneEnd) (more_seats : List SendKnown)
    → (proc_view number mailbox lanes seats soft receipts undone told) ≡ old → ArePorts (proc_view number mailbox lanes seats soft receipts undone told) → AllFree old → ask.port < length old.lanes
    → n ≡ length receipts → soft_read ≡ slice_index_or soft ask.port soft_read → MayLook (n + undone) soft_read ask
    → TouchesPort ask.port lanes more_lanes seats more_seats
    → ((d : LaneEnd) (calls : ℕ) (is_soft : Bool) → MayLook calls is_soft ask → IsReceiptOf calls is_soft (length (tasks_of (slice_index_or lanes ask.port d))) ask receipt)
    → ((d : LaneEnd) → HasSent ask (slice_index_or lanes ask.port d) (slice_index_or more_lanes ask.port d) receipt.outcome)
    → ((d : SendKnown) → HasStepped ask (slice_index_or seats ask.port d) (slice_index_or more_seats ask.port d) receipt.outcome receipt.stat receipt.msgq)
    → items ≡ receipts ++ receipt ∷ []
    → CallMade old (proc_view number mailbox more_lanes more_seats soft items undone told) ask receipt
sent-call old number mailbox lanes seats soft receipts items undone told n soft_read ask receipt more_lanes more_seats view ports free within count read may touched is-receipt sent steps e =
    let p : ProcView = proc_view number mailbox lanes seats soft receipts undone told in
    let inside : ask.port < length lanes = subst (λ v. ask.port < length v.lanes) (sym view) within in
    let soft-is = get_or_read soft ask.port soft_read (subst (λ k. ask.port < k) (sym ports.soft) inside) read false in
    call-made old number mailbox lanes more_lanes seats more_seats soft receipts items undone told ask receipt view e (record {
      ports = ports;
      free = subst AllFree (sym view) free;
      within = inside;
      touched = touched;
      is_receipt = λ d. is-receipt d (calls_of p) (soft_at ask.port soft)
          (may-look p ask (n + undone) soft_read (calls-are number mailbox lanes seats soft receipts undone told n count) soft-is may);
      sent = sent;
      steps = steps;
    })

-- what lets the call look
pub send-allowed : (old : ProcView) (number : ℕ) (mailbox : Taking Mail (Unit {0})) (lanes : List LaneEnd) (seats : List SendKnown) (soft : List Bool) (receipts items : List Receipt) (undone told n : ℕ) (soft_read : Bool) (ask : Asked) (d : LaneEnd) (e : SendKnown)
    → (proc_view number mailbox lanes seats soft receipts undone told) ≡ old → ArePorts (proc_view number mailbox lanes seats soft receipts undone told) → ask.port < length old.lanes
    → n ≡ length receipts → soft_read ≡ slice_index_or soft ask.port soft_read → MayLook (n + undone) soft_read ask
    → may_send (Process old.number) ask.signal ≡ true → ((f : LaneEnd) → names_below (slice_index_or old.lanes ask.port f).key.processes ask.signal ≡ true)
    → MaySend ask.signal (slice_index_or lanes ask.port d) (slice_index_or seats ask.port e)
send-allowed old number mailbox lanes seats soft receipts items undone told n soft_read ask d e view ports within count read may sends named =
    let p : ProcView = proc_view number mailbox lanes seats soft receipts undone told in
    let inside : ask.port < length lanes = subst (λ v. ask.port < length v.lanes) (sym view) within in
    let soft-is = get_or_read soft ask.port soft_read (subst (λ k. ask.port < k) (sym ports.soft) inside) read false in
    may-send p ask (soft_at ask.port soft) d e ports inside
    (may-look p ask (n + undone) soft_read (calls-are number mailbox lanes seats soft receipts undone told n count) soft-is may)
    (subst (λ v. may_send (Process v.number) ask.signal ≡ true) (sym view) sends)
    (subst (λ v. names_below (slice_index_or v.lanes ask.port d).key.processes ask.signal ≡ true) (sym view) (named d))

few-undone : (n undone more : ℕ) (adds : Bool) → more ≡ undone + cond adds 1 0 → undone ≤ 131072 → (adds ≡ true → n + undone < 131072) → more ≤ 131072
few-undone n undone more true e le below = (let b = below refl in omega arith)
few-undone n undone more false e le below = omega arith

-- and one that found no memory after its look
pub missed-call : (old : ProcView) (number : ℕ) (mailbox : Taking Mail (Unit {0})) (lanes : List LaneEnd) (seats : List SendKnown) (soft : List Bool) (receipts items : List Receipt) (undone told n : ℕ) (soft_read : Bool) (ask : Asked) (more_lanes : List LaneEnd) (more_seats : List SendKnown) (more_undone : ℕ) (adds : Bool)
    → (proc_view number mailbox lanes seats soft receipts undone told) ≡ old → ArePorts (proc_view number mailbox lanes seats soft receipts undone told) → AllFree old → ask.port < length old.lanes
    → n ≡ length receipts → MayLook (n + undone) soft_read ask
    → TouchesPort ask.port lanes more_lanes seats more_seats
    → ((stat : ℕ) × ((d : SendKnown) → HasLooked ask stat (slice_index_or seats ask.port d) (slice_index_or more_seats ask.port d)))
    → more_lanes ≡ lanes → adds ≡ is_command ask.signal → more_undone ≡ undone + cond adds 1 0 → items ≡ receipts
    → CallMissed old (proc_view number mailbox more_lanes more_seats soft items more_undone told) ask
missed-call old number mailbox lanes seats soft receipts items undone told n soft_read ask more_lanes more_seats more_undone adds view ports free within count may touched looks same is counts e =
    let p : ProcView = proc_view number mailbox lanes seats soft receipts undone told in
    let inside : ask.port < length lanes = subst (λ v. ask.port < length v.lanes) (sym view) within in
    call-missed old number mailbox lanes more_lanes seats more_seats soft receipts items undone more_undone told ask view e same (record {
      ports = ports;
      free = subst AllFree (sym view) free;
      within = inside;
      touched = subst (λ ls. TouchesPort ask.port lanes ls seats more_seats) same touched;
      looked = looks;
      counts = subst (λ b. more_undone ≡ undone + cond b 1 0) is counts;
      few = few-undone n undone more_undone adds counts ports.undone (λ t. may.few (command-stays ask.signal (sym is ∙ t)));
    })

-- What the calls of a process leave of its one lane, and what the poller and the workers may send.
use Rattle.std.proofs.Common.{◌≡◌, ◌∙◌, ℕ, List, Result, Ok, Err, inl, inr, true, refl, sym, ap, subst}
use Rattle.std.specs.Prelude.{slice_index_or}
use Rattle.port_model.specs.declared.event.Dir.{Dir}
use Rattle.port_model.specs.declared.signal.Sender.{Sender}
use Rattle.port_model.specs.declared.signal.Sender.TheVariants.{Worker}
use Rattle.port_model.specs.declared.signal.Signal.{Signal}
use Rattle.port_model.specs.declared.signal.Signal.TheVariants.{Ready, Dropped, AsyncDone}
use Rattle.process_end.specs.port_lanes.Keys.{sender_at}
use Rattle.process_end.specs.port_lanes.Parcels.{names_below}
use Rattle.process_end.specs.port_lanes.port_history.Laws.{may_send}
use Rattle.process_end.specs.process_receipts.Asks.{Asked}
use Rattle.process_end.specs.process_receipts.declared.receipt.Outcome.{Outcome}
use Rattle.process_end.specs.process_receipts.declared.receipt.Outcome.TheVariants.{Accepted, Suspended}
use Rattle.process_end.specs.declared.answers.Commanded.{Commanded}
use Rattle.process_end.specs.declared.answers.NotYet.{NotYet}
use Rattle.process_end.specs.declared.answers.NotYet.TheVariants as notyet
use Rattle.process_end.specs.declared.answers.SendRefusal.{SendRefusal}
use Rattle.process_end.specs.Views.{LaneEnd, ProcView, StoppedView}
use Rattle.process_end.specs.Steps.{HasSent}
use Rattle.process_end.specs.Calls.{HasMade, HasMissed}
use Rattle.process_end.specs.Commanded.{proc_in, HasCommanded, HasSignalled}
use Rattle.process_end.specs.Looked.{HasLookedAt}
use Rattle.process_end.specs.Resumed.{proc_after, HasTried, HasWaited}
use Rattle.run_lanes.specs.declared.parts.ProcessLanes.{ProcessLanes}
use Rattle.body_tests.specs.Beside.{AreOfOne, CanServe, IsOfOnePort, IsOfPoller, IsOfWorker, is_worker}

sent_key : (ask : Asked) (lane new : LaneEnd) (outcome : Outcome) → HasSent ask lane new outcome → new.key ≡ lane.key
sent_key ask lane new Accepted h = ap (λ l. l.key) h.same
sent_key ask lane new Suspended h = ap (λ l. l.key) h.same
sent_key ask lane new _ h = ap (λ l. l.key) h

same_one : (old new : List LaneEnd) → new ≡ old → AreOfOne old → AreOfOne new
same_one old new e one = subst AreOfOne (sym e) one

made_one : (old new : ProcView) (ask : Asked) (receipt : _) → HasMade old ask new receipt → ask.port ≡ 0 → IsOfOnePort old → IsOfOnePort new
made_one old new ask receipt made at one = record {
  many = made.touched.many.0 ∙ one.many;
  key = λ d. ap (λ k. k.processes) (subst (λ port. (slice_index_or new.lanes port d).key ≡ (slice_index_or old.lanes port d).key) at (sent_key ask _ _ receipt.outcome (made.sent d))) ∙ one.key d;
}

missed_one : (old new : ProcView) (ask : Asked) → HasMissed old ask new → IsOfOnePort old → IsOfOnePort new
missed_one old new ask missed one = same_one old.lanes new.lanes (ap (λ p. p.lanes) missed.rest) one

pub commanded_one : (old : ProcView) (ask : Asked) (answer : Commanded) → HasCommanded old ask answer → ask.port ≡ 0 → IsOfOnePort old → IsOfOnePort (proc_in answer)
commanded_one old ask answer (inl made) at one = made_one old (proc_in answer) ask made.0 made.1 at one
commanded_one old ask answer (inr missed) at one = missed_one old (proc_in answer) ask missed.0 one

pub signalled_one : (old new : ProcView) (ask : Asked) (answer : Result ℕ SendRefusal) → HasSignalled old ask new answer → ask.port ≡ 0 → IsOfOnePort old → IsOfOnePort new
signalled_one old new ask answer (inl made) at one = made_one old new ask made.0 made.1 at one
signalled_one old new ask answer (inr missed) at one = missed_one old new ask missed.0 one

waited_lanes : (old new : StoppedView) (why : NotYet) → HasWaited old new why → new.proc.lanes ≡ old.proc.lanes
waited_lanes old new notyet.Empty h = ap (λ s. s.proc.lanes) h.1
waited_lanes old new (notyet.Other other) h = ap (λ s. s.proc.lanes) h.1
waited_lanes old new (notyet.SamePeriod word) h = ap (λ p. p.lanes) h.1.found.rest

pub tried_one : (old : StoppedView) (answer : Result ProcView (StoppedView × NotYet)) → HasTried old answer → IsOfOnePort old.proc → IsOfOnePort (proc_after answer)
tried_one old (Ok new) h one = same_one old.proc.lanes new.lanes (ap (λ p. p.lanes) h.1.found.rest) one
tried_one old (Err e) h one = same_one old.proc.lanes e.0.proc.lanes (waited_lanes old e.0 e.1 h) one

pub looked_one : (old new : ProcView) (stat : ℕ) → HasLookedAt 0 old new stat → IsOfOnePort old → IsOfOnePort new
looked_one old new stat h one = same_one old.lanes new.lanes (ap (λ p. p.lanes) h.rest) one

pub named_one : (p : ProcView) (signal : Signal) → IsOfOnePort p → names_below 3 signal ≡ true → (d : LaneEnd) → names_below (slice_index_or p.lanes 0 d).key.processes signal ≡ true
named_one p signal one within d = ap (λ n. names_below n signal) (one.key d) ∙ within

pub poller_tells_ready : (lane : LaneEnd) (event : ℕ) (dir : Dir) → IsOfPoller lane → may_send (sender_at lane.key lane.number) (Ready event dir) ≡ true
poller_tells_ready lane event dir is = ap (λ s. may_send s (Ready event dir)) is

pub poller_tells_dropped : (lane : LaneEnd) (event : ℕ) → IsOfPoller lane → may_send (sender_at lane.key lane.number) (Dropped event) ≡ true
poller_tells_dropped lane event is = ap (λ s. may_send s (Dropped event)) is

worker_may : (sender : Sender) (number : ℕ) (output : List ℕ) → is_worker sender ≡ true → may_send sender (AsyncDone number output) ≡ true
worker_may (Worker worker) number output is = refl
worker_may _ number output is = absurd cc

pub worker_tells : (lane : LaneEnd) (number : ℕ) (output : List ℕ) → IsOfWorker lane → may_send (sender_at lane.key lane.number) (AsyncDone number output) ≡ true
worker_tells lane number output is = worker_may (sender_at lane.key lane.number) number output is

pub begun_one : (number : ℕ) (p : ProcessLanes) (v : ProcView) → CanServe number p → v.lanes ≡ p.lanes.items → IsOfOnePort v
begun_one number p v can e = same_one p.lanes.items v.lanes e can.lanes

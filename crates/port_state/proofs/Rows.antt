-- The state after the row of a handled task.
use Rattle.std.proofs.Common.{◌≡◌, ℕ, List, [], ◌∷◌, ◌++◌, length, Bool, true, false, ◌&&◌, ◌||◌, Option, Some, None, is_some, refl, sym, ap, ◌∙◌, subst}
use Rattle.std.specs.Prelude.{◌<◌, not, if◌then◌else◌, IsSomeAnd}
use Rattle.port_model.specs.port_signal.Reasons.{is_kill}
use Rattle.port_model.specs.port_signal.declared.mark.MarkKind.{MarkKind}
use Rattle.port_model.specs.port_signal.declared.mark.MarkKind.TheVariants.{Closed}
use Rattle.port_service.specs.port_driver.driver_model.Calls.{DriverCall}
use Rattle.port_service.specs.port_driver.driver_model.Drivers.{held_events}
use Rattle.port_service.specs.port_driver.driver_model.Same.{same_effects}
use Rattle.port_service.specs.port_driver.Driven.{Stands}
use Rattle.port_service.specs.port_driver.declared.life.Life.{Life}
use Rattle.port_service.specs.port_driver.declared.life.Life.TheVariants.{Fresh, Started, Stopped}
use Rattle.port_mail.specs.port_links.port_history.Opening.{Opening, Taken, taken_of}
use Rattle.port_mail.specs.port_links.port_history.Marks.{busy_after, busy_marks, closed_marks, is_busy}
use Rattle.port_mail.specs.port_links.port_history.Service.{callback_of, caller_of, calls_by, effects_after, first_reason, flush_calls, must_stop, stop_calls}
use Rattle.port_mail.specs.port_links.port_history.Ties.{failure, signal_reason, tied, untied, watched_by}
use Rattle.port_mail.specs.port_links.port_history.Mail.{closing_mail}
use Rattle.port_model.specs.declared.signal.Sender.{Sender}
use Rattle.port_model.specs.declared.signal.Sender.TheVariants.{Process, Poller, Worker, Timer}
use Rattle.port_model.specs.declared.signal.Signal.TheVariants.{Dropped}
use Rattle.port_model.specs.Tasks.{TaskView}
use Rattle.port_mail.specs.port_links.port_history.State.{State, closing_reason, closer_after, closer_of, flushed_calls, row_calls, signal_calls, stops, after_handled}
use Rattle.port_mail.specs.port_links.port_history.Laws.{has_effects, is_answered_by}
use Rattle.port_service.specs.port_driver.driver_model.Spawn.{is_none}
use Rattle.port_service.specs.port_driver.Context.{SameEvents}
use Rattle.port_mail.specs.port_links.Table.{IsAmong}
use Rattle.port_service.specs.Callbacks.{is_flagged, is_told_of}
use Rattle.port_service.specs.Serves.{IsServed, Served, Watches, standing}
use Rattle.port_state.specs.View.{StateView, IsStateOf, IsNotKilled, change_marks}
use Rattle.port_state.specs.Served.{untied_for}
use Rattle.port_state.proofs.Same.{same}

first-none : (r : Option (List ℕ)) → first_reason r None ≡ r
first-none None = refl
first-none (Some r) = refl

-- the reason of a port after a row: it closed before, or the row closes it
firsts : (before other : Option (List ℕ))
    → first_reason (if is_some before then None else other) before ≡ first_reason before (if is_some before then None else other)
firsts None other = first-none other
firsts (Some r) other = refl

closed-mark : (r : Option (List ℕ)) → (if is_some r then Closed ∷ [] else []) ≡ closed_marks r
closed-mark None = refl
closed-mark (Some r) = refl

or-left : (a b : Bool) → (a || b) ≡ false → a ≡ false
or-left true b e = e
or-left false b e = refl

not-killed : (port : Opening) (r : Option (List ℕ)) (calls : List DriverCall) → must_stop port r calls ≡ false → IsNotKilled r
not-killed port None calls e = tt
not-killed port (Some r) calls e = or-left _ _ e

still : (runs stopped : Bool) (b : Bool) → stopped ≡ false → (stopped || (not stopped && b)) ≡ false → b ≡ false
still runs stopped b e f = subst (λ x. (x || (not x && b)) ≡ false) e f

-- the calls of a driver and what it keeps, whatever its events are called
pub stands-held : (port : Opening) (calls : List DriverCall) (own : _) (program : _) (next : ℕ) (held queue : List ℕ)
    → Stands port.kind port.config calls own program (standing next held queue)
    → Stands port.kind port.config calls own program (standing next (held_events port.kind port.config calls) queue)
stands-held port calls own program next held queue stands = record {
  holds = stands.holds;
  jobs = stands.jobs;
  events = record { each = λ event. refl; count = refl };
  told = stands.told;
}

pub served-state : (port : Opening) (s : State) (t : Taken) (reason : Option (List ℕ)) (stopped : Bool) (old new : StateView)
    → IsStateOf old port s → s.due ≡ [] → s.stopped ≡ false → Served port s t reason stopped new.service
    → new.number ≡ old.number → new.links.processes ≡ old.links.processes → new.service.kind ≡ old.service.kind
    → new.service.stage ≡ (if stopped then Stopped else Started)
    → length new.service.watched ≡ length old.service.watched → Watches new.service.watched (watched_by t.effects s.watched)
    → new.links.ties ≡ untied_for reason (tied port s.ties t.from t.task.signal)
    → new.reason ≡ first_reason reason old.reason
    → new.closer ≡ (if is_some reason && not (is_some (failure t.effects)) then closer_of s.ties t.from t.task.signal else old.closer)
    → new.stopped ≡ (old.stopped || stopped) → new.busy ≡ old.busy
    → change_marks new.change ≡ busy_marks old.busy (busy_after old.busy t.effects) → new.closes ≡ is_some reason
    → IsStateOf new port (after_handled port s t)
served-state port s t reason stopped old new told none runs served n p k stage flags watches ties r closer st b change closes =
    let sv = served.serves in
    let cr = closing_reason s t in
    record {
      number = n ∙ told.number;
      processes = p ∙ told.processes;
      kind = k ∙ told.kind;
      ties = ties ∙ ap (λ x. untied_for x (tied port s.ties t.from t.task.signal)) sv.closes;
      flags = flags ∙ told.flags;
      watches = watches;
      reason = r ∙ (ap (λ x. first_reason x old.reason) sv.closes ∙ (ap (λ x. first_reason cr x) told.reason ∙ firsts s.reason (first_reason (failure t.effects) (signal_reason s.ties t.from t.task.signal))));
      closer = closer ∙ (ap (λ x. if is_some x && not (is_some (failure t.effects)) then closer_of s.ties t.from t.task.signal else old.closer) sv.closes
          ∙ ap (λ x. if is_some cr && not (is_some (failure t.effects)) then closer_of s.ties t.from t.task.signal else x) told.closer);
      stopped = st ∙ (ap (λ x. x || stopped) told.stopped ∙ ap (λ x. s.stopped || x) sv.stops_it);
      stage = stage ∙ (ap (λ x. if x then Stopped else Started) sv.stops_it ∙ ap (λ x. if x || stops port s t then Stopped else Started) (sym runs));
      busy = b ∙ told.busy;
      due = ap (λ x. x ++ (if new.closes then Closed ∷ [] else [])) change
          ∙ (ap (λ x. busy_marks x (busy_after x t.effects) ++ (if new.closes then Closed ∷ [] else [])) told.busy
          ∙ (ap (λ x. busy_marks (is_busy s.marks) (busy_after (is_busy s.marks) t.effects) ++ (if x then Closed ∷ [] else [])) (closes ∙ ap is_some sv.closes)
          ∙ ap (λ x. busy_marks (is_busy s.marks) (busy_after (is_busy s.marks) t.effects) ++ x) (closed-mark cr)));
      served = λ e. not-killed port (first_reason s.reason cr) (flushed_calls port s t ++ s.calls)
          (still false s.stopped (must_stop port (first_reason s.reason cr) (flushed_calls port s t ++ s.calls)) runs e);
      stands = stands-held port (row_calls port s t ++ s.calls) new.service.own new.service.program new.service.next_job served.held new.service.queue sv.stands;
    }

pub has-effects : (port : Opening) (s : State) (t : Taken) (reason : Option (List ℕ)) (stopped : Bool) (service : _)
    → Served port s t reason stopped service → has_effects port s t ≡ true
has-effects port s t reason stopped service served =
    rw (← served.serves.effects, same t.effects, served.serves.answered) refl

none-either : (b : Bool) (r : Option (List ℕ)) → r ≡ None → (if b then None else r) ≡ None
none-either true r e = refl
none-either false r e = e

same-busy : (b : Bool) → busy_marks b b ≡ []
same-busy true = refl
same-busy false = refl

-- what the row of a dropped event leaves once the driver is stopped: it closes nothing, stops nothing and calls nothing
pub record Quiet (s : State) (port : Opening) (t : Taken) : Type 0 where
  pub closes : closing_reason s t ≡ None
  pub stops_none : stops port s t ≡ false
  pub calls : row_calls port s t ≡ []
  pub signal : signal_calls s t ≡ []

pub quiet : (port : Opening) (s : State) (seq : ℕ) (task : TaskView) (event : ℕ) → task.signal ≡ Dropped event → s.stopped ≡ true
    → Quiet s port (taken_of Poller seq task [] [])
quiet port s seq task event e stopped =
    let t = taken_of Poller seq task [] [] in
    let c = caller_of s.ties Poller in
    let cr : closing_reason s t ≡ None = none-either (is_some s.reason) (first_reason (failure t.effects) (signal_reason s.ties Poller task.signal)) refl in
    let st : stops port s t ≡ false = ap (λ x. not x && must_stop port (first_reason s.reason (closing_reason s t)) (flushed_calls port s t ++ s.calls)) stopped in
    let sc : signal_calls s t ≡ [] = ap (λ x. calls_by (callback_of s.ties s.watched Poller x) c t) e in
    let fl : flushed_calls port s t ≡ [] = ap (λ x. flush_calls port c x (signal_calls s t ++ s.calls) ++ signal_calls s t) cr ∙ sc in
    record { closes = cr; stops_none = st; calls = ap (λ x. stop_calls x c ++ flushed_calls port s t) st ∙ fl; signal = sc }

pub quiet-effects : (port : Opening) (s : State) (t : Taken) → t.effects ≡ [] → t.outside ≡ [] → Quiet s port t → has_effects port s t ≡ true
quiet-effects port s t none asked q =
    ap (λ x. same_effects x (effects_after port s.calls (row_calls port s t)) && is_answered_by port s (signal_calls s t) t.outside) none
    ∙ (ap (λ x. same_effects [] (effects_after port s.calls x) && is_answered_by port s (signal_calls s t) t.outside) q.calls
    ∙ (ap (λ x. is_answered_by port s x t.outside) q.signal ∙ ap is_none asked))

pub quiet-closer : (port : Opening) (s : State) (t : Taken) → Quiet s port t → closer_after s t ≡ s.closer
quiet-closer port s t q = ap (λ x. if is_some x && not (is_some (failure t.effects)) then closer_of s.ties t.from t.task.signal else s.closer) q.closes

pub quiet-exits : (port : Opening) (s : State) (t : Taken) → Quiet s port t → closing_mail port.number (closing_reason s t) (tied port s.ties t.from t.task.signal) ≡ []
quiet-exits port s t q = ap (λ x. closing_mail port.number x (tied port s.ties t.from t.task.signal)) q.closes

-- the state after such a row is that before it
pub quiet-state : (port : Opening) (s : State) (seq : ℕ) (task : TaskView) (c : StateView) → IsStateOf c port s → s.due ≡ [] → s.stopped ≡ true
    → Quiet s port (taken_of Poller seq task [] []) → IsStateOf c port (after_handled port s (taken_of Poller seq task [] []))
quiet-state port s seq task c told none stopped q =
    let t = taken_of Poller seq task [] [] in
    let still' : s.stopped ≡ (s.stopped || stops port s t) = stopped ∙ sym (ap (λ x. x || stops port s t) stopped) in
    record {
      number = told.number;
      processes = told.processes;
      kind = told.kind;
      ties = told.ties ∙ sym (ap (λ x. if is_some x then untied (tied port s.ties Poller task.signal) else tied port s.ties Poller task.signal) q.closes);
      flags = told.flags;
      watches = told.watches;
      reason = told.reason ∙ sym (ap (λ x. first_reason s.reason x) q.closes ∙ first-none s.reason);
      closer = told.closer ∙ sym (quiet-closer port s t q);
      stopped = told.stopped ∙ still';
      stage = told.stage ∙ ap (λ x. if x then Stopped else Started) still';
      busy = told.busy;
      due = told.due ∙ (none ∙ sym (ap (λ x. busy_marks (is_busy s.marks) (is_busy s.marks) ++ closed_marks x) q.closes ∙ ap (λ (x : List MarkKind). x ++ []) (same-busy (is_busy s.marks))));
      served = λ e. let f : true ≡ false = sym (ap (λ x. x || stops port s t) stopped) ∙ e in absurd cc;
      stands = subst (λ x. Stands port.kind port.config (x ++ s.calls) c.service.own c.service.program (standing c.service.next_job (held_events port.kind port.config (x ++ s.calls)) c.service.queue)) (sym q.calls) told.stands;
    }

pub runs-of : (b : Bool) → Started ≡ (if b then Stopped else Started) → b ≡ false
runs-of true e = absurd cc
runs-of false e = refl

none-of : (r : Option (List ℕ)) → is_some r ≡ false → r ≡ None
none-of None e = refl
none-of (Some r) e = absurd cc

some-of : (r : Option (List ℕ)) → is_some r ≡ true → IsNotKilled r → IsSomeAnd r (λ reason. is_kill reason ≡ false)
some-of None e alive = absurd cc
some-of (Some r) e alive = alive

-- a port is open or closing, by whether it has a reason
pub served-as : (s : State) (closing : Bool) (reason : Option (List ℕ)) → closing ≡ is_some reason → reason ≡ s.reason → s.stopped ≡ false → IsNotKilled s.reason
    → IsServed s closing
served-as s closing reason c r runs alive = record {
  opened = λ e. none-of s.reason (sym (c ∙ ap is_some r) ∙ e);
  closing_for = λ e. some-of s.reason (sym (c ∙ ap is_some r) ∙ e) alive;
  runs = runs;
}

pub flagged : (flags : List Bool) (watched : List ℕ) (from : Sender) (n : ℕ) → Watches flags watched → length flags ≡ n → IsAmong n from
    → is_flagged flags from ≡ is_told_of watched from
flagged flags watched (Process process) n w e among = w process (subst (λ x. process < x) (sym e) among)
flagged flags watched Poller n w e among = refl
flagged flags watched (Worker worker) n w e among = refl
flagged flags watched Timer n w e among = refl

pub stands-with : (port : Opening) (calls : List DriverCall) (own : _) (program : _) (next : ℕ) (held queue : List ℕ)
    → Stands port.kind port.config calls own program (standing next (held_events port.kind port.config calls) queue)
    → SameEvents held (held_events port.kind port.config calls) → Stands port.kind port.config calls own program (standing next held queue)
stands-with port calls own program next held queue stands same = record { holds = stands.holds; jobs = stands.jobs; events = same; told = stands.told }

-- a driver that was called isn't fresh
pub not-fresh : (stops : Bool) (stage : Life) → stage ≡ (if stops then Stopped else Started) → stage ≡ Fresh → ⊥
not-fresh true stage e fresh = absurd (let two : Stopped ≡ Fresh = sym e ∙ fresh in cc)
not-fresh false stage e fresh = absurd (let two : Started ≡ Fresh = sym e ∙ fresh in cc)

-- What a row of a task leaves of a port.
use Rattle.std.proofs.Common.{◌≡◌, ℕ, ◌==◌, cond, map, Bool, true, false, ◌||◌, ◌&&◌, List, [], ◌∷◌, ◌++◌, Option, Some, None, is_some, refl, sym, ap, ◌∙◌, subst}
use Rattle.std.specs.Prelude.{not, if◌then◌else◌}
use Rattle.port_driver.specs.driver_model.Calls.{DriverCall}
use Rattle.port_driver.specs.driver_model.Drivers.{held_events, held_by, effects_of}
use Rattle.port_driver.specs.Context.{SameEvents}
use Rattle.port_model.specs.port_signal.declared.mark.MarkKind.{MarkKind}
use Rattle.port_model.specs.declared.event.Dir.{Dir}
use Rattle.port_model.specs.declared.event.Dir.TheVariants.{Read, Write}
use Rattle.port_model.specs.declared.row.Row.TheVariants.{Listed, Resumed, Mark}
use Rattle.port_model.specs.declared.signal.Sender.{Sender}
use Rattle.port_model.specs.declared.signal.Sender.TheVariants.{Process, Poller, Worker, Timer}
use Rattle.port_model.specs.declared.signal.Signal.{Signal}
use Rattle.port_model.specs.declared.signal.Signal.TheVariants as signal
use Rattle.port_events.specs.port_history.Events.{Event, change, event_of, numbers, is_selected, is_armed_in, drop_event, disarm, read_no_more, arm, give_up, told_of, selected_by, deselected, stopped_by, events_after}
use Rattle.port_events.specs.port_history.Jobs.{is_submitted, submitted_by, done_by}
use Rattle.port_events.specs.port_history.Opening.{Opening, Taken}
use Rattle.port_events.specs.port_history.Service.{effects_after, first_reason, must_stop, callback_of, caller_of, calls_by, flush_calls, stop_calls}
use Rattle.port_events.specs.port_history.State.{State, is_open, is_closed_by, stops, closing_reason, flushed_calls, signal_calls, row_calls, after, after_handled, after_late, start_call, state_at_start}
use Rattle.port_events.specs.port_history.Ties.{failure, signal_reason}
use Rattle.port_events.specs.Table as events
use Rattle.port_events.specs.Table.{held_of}
use Rattle.port_events.proofs.Rising.{Rising, changed, event-map, up-from}
use Rattle.port_jobs.specs.Jobs as jobs
use Rattle.port_state.specs.View.{StateView, IsStateOf}
use Rattle.served_port.specs.View.{ServedView, IsAt}
use Rattle.served_port.specs.Outcomes.{is_handled}
use Rattle.served_port.proofs.Held.{Followed, told-late, row-held, held-after, to-same, from-same, start-held}

or-either : (a b : Bool) → (a || b) ≡ true → (a ≡ false → b ≡ true)
or-either true b e f = absurd cc
or-either false b e f = e

or-none : (a b : Bool) → (a || b) ≡ false → a ≡ false
or-none true b e = e
or-none false b e = refl

or-last : (a b : Bool) → (a || b) ≡ false → b ≡ false
or-last true b e = absurd cc
or-last false b e = e

-- a driver is stopped only where the port closes or is closed

stop-closes : (port : Opening) (r : Option (List ℕ)) (calls : List DriverCall) → must_stop port r calls ≡ true → not (is_some r) ≡ false
stop-closes port None calls e = absurd cc
stop-closes port (Some r) calls e = refl

stays-closed : (r other : Option (List ℕ)) → not (is_some r) ≡ false → not (is_some (first_reason r other)) ≡ false
stays-closed None other e = absurd cc
stays-closed (Some r) other e = refl

and-last : (a b : Bool) → (a && b) ≡ true → b ≡ true
and-last true b e = e
and-last false b e = absurd cc

and-first : (a b : Bool) → (a && b) ≡ true → a ≡ true
and-first true b e = refl
and-first false b e = absurd cc

closed-after : (port : Opening) (s : State) (t : Taken) → (s.stopped ≡ true → is_open s ≡ false) → (s.stopped || stops port s t) ≡ true
    → not (is_some (first_reason s.reason (closing_reason s t))) ≡ false
closed-after port s t before e = elim s.stopped as (λ b. s.stopped ≡ b → not (is_some (first_reason s.reason (closing_reason s t))) ≡ false) [
  | true ↦ λ was. stays-closed s.reason (closing_reason s t) (before was)
  | false ↦ λ ran. stop-closes port (first_reason s.reason (closing_reason s t)) (flushed_calls port s t ++ s.calls)
      (and-last (not s.stopped) (must_stop port (first_reason s.reason (closing_reason s t)) (flushed_calls port s t ++ s.calls)) (or-either s.stopped (stops port s t) e ran))
] refl

-- Once the driver is stopped only a dropped event is handled

pub record IsDropped (from : Sender) (sig : Signal) : Type 0 where
  pub event : ℕ
  pub poller : from ≡ Poller
  pub dropped : sig ≡ signal.Dropped event

pub stopped-drops : (v : ServedView) (port : Opening) (s : State) (from : Sender) (sig : Signal) → IsAt v port s → s.stopped ≡ true → is_handled s from sig ≡ true → IsDropped from sig
stopped-drops v port s (Process process) sig at stopped e = absurd (let shut = at.closed stopped in cc)
stopped-drops v port s Poller (signal.Ready event dir) at stopped e =
    absurd (let none = at.given_up stopped event dir in let yes = and-first (is_selected dir (event_of event s.events)) (is_armed_in dir (event_of event s.events)) e in cc)
stopped-drops v port s Poller (signal.Dropped event) at stopped e = record { event = event; poller = refl; dropped = refl }
stopped-drops v port s Poller (signal.Command payload) at stopped e = absurd cc
stopped-drops v port s Poller (signal.OwnerCommand payload) at stopped e = absurd cc
stopped-drops v port s Poller (signal.Control op bytes) at stopped e = absurd cc
stopped-drops v port s Poller (signal.Call op bytes) at stopped e = absurd cc
stopped-drops v port s Poller signal.Close at stopped e = absurd cc
stopped-drops v port s Poller signal.OwnerClose at stopped e = absurd cc
stopped-drops v port s Poller (signal.Connect process) at stopped e = absurd cc
stopped-drops v port s Poller (signal.OwnerConnect process) at stopped e = absurd cc
stopped-drops v port s Poller signal.Link at stopped e = absurd cc
stopped-drops v port s Poller signal.Unlink at stopped e = absurd cc
stopped-drops v port s Poller (signal.Monitor number) at stopped e = absurd cc
stopped-drops v port s Poller (signal.Demonitor number) at stopped e = absurd cc
stopped-drops v port s Poller (signal.Exit reason) at stopped e = absurd cc
stopped-drops v port s Poller (signal.Gone reason) at stopped e = absurd cc
stopped-drops v port s Poller (signal.AsyncDone number output) at stopped e = absurd cc
stopped-drops v port s (Worker worker) (signal.AsyncDone number output) at stopped e =
    absurd (let last = and-last (is_submitted number s.jobs) (not s.stopped) e in let none : not s.stopped ≡ false = ap not stopped in cc)
stopped-drops v port s (Worker worker) (signal.Ready event dir) at stopped e = absurd cc
stopped-drops v port s (Worker worker) (signal.Dropped event) at stopped e = absurd cc
stopped-drops v port s (Worker worker) (signal.Command payload) at stopped e = absurd cc
stopped-drops v port s (Worker worker) (signal.OwnerCommand payload) at stopped e = absurd cc
stopped-drops v port s (Worker worker) (signal.Control op bytes) at stopped e = absurd cc
stopped-drops v port s (Worker worker) (signal.Call op bytes) at stopped e = absurd cc
stopped-drops v port s (Worker worker) signal.Close at stopped e = absurd cc
stopped-drops v port s (Worker worker) signal.OwnerClose at stopped e = absurd cc
stopped-drops v port s (Worker worker) (signal.Connect process) at stopped e = absurd cc
stopped-drops v port s (Worker worker) (signal.OwnerConnect process) at stopped e = absurd cc
stopped-drops v port s (Worker worker) signal.Link at stopped e = absurd cc
stopped-drops v port s (Worker worker) signal.Unlink at stopped e = absurd cc
stopped-drops v port s (Worker worker) (signal.Monitor number) at stopped e = absurd cc
stopped-drops v port s (Worker worker) (signal.Demonitor number) at stopped e = absurd cc
stopped-drops v port s (Worker worker) (signal.Exit reason) at stopped e = absurd cc
stopped-drops v port s (Worker worker) (signal.Gone reason) at stopped e = absurd cc
stopped-drops v port s Timer sig at stopped e = absurd cc

none-either : (b : Bool) (r : Option (List ℕ)) → b ≡ true → (if b then None else r) ≡ None
none-either true r e = refl
none-either false r e = absurd cc

some-not : (b : Bool) → not b ≡ false → b ≡ true
some-not true e = refl
some-not false e = absurd cc

-- and its row makes no call
quiet-calls : (port : Opening) (s : State) (t : Taken) (event : ℕ) → t.task.signal ≡ signal.Dropped event → s.stopped ≡ true → is_open s ≡ false → row_calls port s t ≡ []
quiet-calls port s t event sig stopped shut =
    let caller = caller_of s.ties t.from in
    let reason : closing_reason s t ≡ None =
    none-either (is_some s.reason) (first_reason (failure t.effects) (signal_reason s.ties t.from t.task.signal)) (some-not (is_some s.reason) shut) in
    let called : signal_calls s t ≡ [] = ap (λ x. calls_by (callback_of s.ties s.watched t.from x) caller t) sig in
    let flushed : flushed_calls port s t ≡ [] = ap (λ x. flush_calls port caller x (signal_calls s t ++ s.calls) ++ signal_calls s t) reason ∙ called in
    let runs : stops port s t ≡ false = ap (λ x. not x && must_stop port (first_reason s.reason (closing_reason s t)) (flushed_calls port s t ++ s.calls)) stopped in
    ap (λ x. stop_calls x caller ++ flushed_calls port s t) runs ∙ flushed

-- Selections

selected-up : (dir : Dir) (e : Event) → is_selected dir (give_up e) ≡ false
selected-up Read e = refl
selected-up Write e = refl

selected-drop : (dir : Dir) (e : Event) → is_selected dir (drop_event e) ≡ is_selected dir e
selected-drop Read e = refl
selected-drop Write e = refl

selected-disarm : (dir told : Dir) (e : Event) → is_selected dir (disarm told e) ≡ is_selected dir e
selected-disarm Read Read e = refl
selected-disarm Read Write e = refl
selected-disarm Write Read e = refl
selected-disarm Write Write e = refl

selected-arm : (dir : Dir) (e : Event) → is_selected dir (arm e) ≡ is_selected dir e
selected-arm Read e = refl
selected-arm Write e = refl

selected-closed : (dir : Dir) (e : Event) → is_selected dir e ≡ false → is_selected dir (read_no_more e) ≡ false
selected-closed Read e none = refl
selected-closed Write e none = none

abbrev pub NoneSelected : List Event → Type 0
NoneSelected events = (n : ℕ) (dir : Dir) → is_selected dir (event_of n events) ≡ false

none-change : (event : ℕ) (how : Event → Event) → ((e : Event) → (how e).number ≡ e.number) → ((dir : Dir) (e : Event) → is_selected dir (how e) ≡ is_selected dir e)
    → (events : List Event) → Rising events → NoneSelected events → NoneSelected (change event how events)
none-change event how keeps leaves events up none n dir =
    ap (is_selected dir) (changed event how keeps n events up)
    ∙ elim (event == n) as (λ b. is_selected dir (cond b (how (event_of n events)) (event_of n events)) ≡ false) [
      | true ↦ leaves dir (event_of n events) ∙ none n dir
      | false ↦ none n dir
    ]

number-disarm : (dir : Dir) (e : Event) → (disarm dir e).number ≡ e.number
number-disarm Read e = refl
number-disarm Write e = refl

none-deselected : (closed : Bool) (events : List Event) → NoneSelected events → NoneSelected (deselected closed events)
none-deselected true events none n dir =
    ap (is_selected dir) (event-map read_no_more (λ e. refl) n refl events) ∙ selected-closed dir (event_of n events) (none n dir)
none-deselected false events none n dir = none n dir

none-armed : (events : List Event) → NoneSelected events → NoneSelected (map arm events)
none-armed events none n dir = ap (is_selected dir) (event-map arm (λ e. refl) n refl events) ∙ (selected-arm dir (event_of n events) ∙ none n dir)

none-stopped : (events : List Event) → NoneSelected (map give_up events)
none-stopped events n dir = ap (is_selected dir) (event-map give_up (λ e. refl) n refl events) ∙ selected-up dir (event_of n events)

given-up-after : (v : ServedView) (port : Opening) (s : State) (t : Taken) → IsAt v port s → is_handled s t.from t.task.signal ≡ true
    → t.effects ≡ effects_after port s.calls (row_calls port s t) → (s.stopped || stops port s t) ≡ true
    → NoneSelected (events_after t.task.signal t.effects (is_closed_by s t) (stops port s t) s.events)
given-up-after v port s t at handled are e = elim s.stopped as (λ b. s.stopped ≡ b
    → NoneSelected (events_after t.task.signal t.effects (is_closed_by s t) (stops port s t) s.events)) [
      | true ↦ λ was. was_stopped was
      | false ↦ λ ran. subst (λ b. NoneSelected (stopped_by b (map arm (deselected (is_closed_by s t) (selected_by t.effects (told_of false t.task.signal s.events))))))
          (sym (or-either s.stopped (stops port s t) e ran)) (none-stopped (map arm (deselected (is_closed_by s t) (selected_by t.effects (told_of false t.task.signal s.events)))))
    ] refl where
      was_stopped : s.stopped ≡ true → NoneSelected (events_after t.task.signal t.effects (is_closed_by s t) (stops port s t) s.events)
      was_stopped was =
          let d = stopped-drops v port s t.from t.task.signal at was handled in
          let silent : t.effects ≡ [] = are ∙ ap (λ x. effects_after port s.calls x) (quiet-calls port s t d.event d.dropped was (at.closed was)) in
          let runs : stops port s t ≡ false = ap (λ x. not x && must_stop port (first_reason s.reason (closing_reason s t)) (flushed_calls port s t ++ s.calls)) was in
          let same : events_after t.task.signal t.effects (is_closed_by s t) (stops port s t) s.events ≡ map arm (deselected (is_closed_by s t) (change d.event drop_event s.events)) =
          ap (λ x. stopped_by x (map arm (deselected (is_closed_by s t) (selected_by t.effects (told_of false t.task.signal s.events))))) runs
          ∙ (ap (λ x. map arm (deselected (is_closed_by s t) (selected_by x (told_of false t.task.signal s.events)))) silent
          ∙ ap (λ x. map arm (deselected (is_closed_by s t) (told_of false x s.events))) d.dropped) in
          subst NoneSelected (sym same) (none-armed (deselected (is_closed_by s t) (change d.event drop_event s.events))
          (none-deselected (is_closed_by s t) (change d.event drop_event s.events)
          (none-change d.event drop_event (λ e. refl) selected-drop s.events (up-from (numbers s.events) at.events.rising) (at.given_up was))))

-- After the row of a handled task

held-of-row : (v : ServedView) (port : Opening) (s : State) (t : Taken) → IsAt v port s → t.effects ≡ effects_after port s.calls (row_calls port s t)
    → (s.stopped || stops port s t) ≡ false
    → SameEvents (held_of (events_after t.task.signal t.effects (is_closed_by s t) (stops port s t) s.events)) (held_events port.kind port.config (row_calls port s t ++ s.calls))
held-of-row v port s t at are e =
    let runs : s.stopped ≡ false = or-none s.stopped (stops port s t) e in
    let goes : stops port s t ≡ false = or-last s.stopped (stops port s t) e in
    let before = from-same (held_events port.kind port.config s.calls) s.events at.events.rising (at.held runs) in
    let held : held_by t.effects (held_events port.kind port.config s.calls) ≡ held_events port.kind port.config (row_calls port s t ++ s.calls) =
    ap (λ x. held_by x (held_events port.kind port.config s.calls)) are ∙ sym (held-after port s.calls (row_calls port s t)) in
    subst (λ b. SameEvents (held_of (stopped_by b (map arm (deselected (is_closed_by s t) (selected_by t.effects (told_of false t.task.signal s.events))))))
    (held_events port.kind port.config (row_calls port s t ++ s.calls))) (sym goes)
    (to-same port.kind port.config (row_calls port s t ++ s.calls) (map arm (deselected (is_closed_by s t) (selected_by t.effects (told_of false t.task.signal s.events))))
    (subst (λ x. Followed x (map arm (deselected (is_closed_by s t) (selected_by t.effects (told_of false t.task.signal s.events))))) held
    (row-held t.task.signal t.effects (is_closed_by s t) (held_events port.kind port.config s.calls) s.events before.rising before.holds)))

pub handled-at : (old new : ServedView) (port : Opening) (s : State) (t : Taken) → IsAt old port s → is_handled s t.from t.task.signal ≡ true
    → t.effects ≡ effects_after port s.calls (row_calls port s t) → IsStateOf new.state port (after_handled port s t)
    → events.Agrees new.events.selector (events_after t.task.signal t.effects (is_closed_by s t) (stops port s t) s.events)
    → new.events.port ≡ old.events.port
    → jobs.Agrees new.jobs (s.jobs ++ submitted_by t.effects) (done_by t.task.signal s.done) → new.jobs.port ≡ old.jobs.port
    → IsAt new port (after_handled port s t)
handled-at old new port s t at handled are state agrees p jobs q = record {
  state = state;
  events = agrees;
  events_port = p ∙ at.events_port;
  jobs = jobs;
  jobs_port = q ∙ at.jobs_port;
  held = held-of-row old port s t at are;
  closed = closed-after port s t at.closed;
  given_up = given-up-after old port s t at handled are;
}

-- After the row of a late task

none-told-late : (sig : Signal) (events : List Event) → Rising events → NoneSelected events → NoneSelected (told_of true sig events)
none-told-late (signal.Command payload) events up none = none
none-told-late (signal.OwnerCommand payload) events up none = none
none-told-late (signal.Control op bytes) events up none = none
none-told-late (signal.Call op bytes) events up none = none
none-told-late signal.Close events up none = none
none-told-late signal.OwnerClose events up none = none
none-told-late (signal.Connect process) events up none = none
none-told-late (signal.OwnerConnect process) events up none = none
none-told-late signal.Link events up none = none
none-told-late signal.Unlink events up none = none
none-told-late (signal.Monitor number) events up none = none
none-told-late (signal.Demonitor number) events up none = none
none-told-late (signal.Exit reason) events up none = none
none-told-late (signal.Gone reason) events up none = none
none-told-late (signal.Ready event dir) events up none = none-change event (disarm dir) (number-disarm dir) (λ d e. selected-disarm d dir e) events up none
none-told-late (signal.Dropped event) events up none = none
none-told-late (signal.AsyncDone number output) events up none = none

pub late-at : (old new : ServedView) (port : Opening) (s : State) (t : Taken) → IsAt old port s → IsStateOf new.state port (after_late s t)
    → events.Agrees new.events.selector (told_of true t.task.signal s.events) → new.events.port ≡ old.events.port
    → jobs.Agrees new.jobs s.jobs (done_by t.task.signal s.done) → new.jobs.port ≡ old.jobs.port
    → IsAt new port (after_late s t)
late-at old new port s t at state agrees p jobs q = record {
  state = state;
  events = agrees;
  events_port = p ∙ at.events_port;
  jobs = jobs;
  jobs_port = q ∙ at.jobs_port;
  held = λ runs.
      let before = from-same (held_events port.kind port.config s.calls) s.events at.events.rising (at.held runs) in
      to-same port.kind port.config s.calls (told_of true t.task.signal s.events)
      (told-late t.task.signal (held_events port.kind port.config s.calls) s.events before.rising before.holds);
  closed = at.closed;
  given_up = λ stopped. none-told-late t.task.signal s.events (up-from (numbers s.events) at.events.rising) (at.given_up stopped);
}

-- After a mark

pub mark-at : (old new : ServedView) (port : Opening) (s : State) (kind : MarkKind) → IsAt old port s → IsStateOf new.state port (after port s (Mark kind))
    → new.events ≡ old.events → new.jobs ≡ old.jobs → IsAt new port (after port s (Mark kind))
mark-at old new port s kind at state e j = record {
  state = state;
  events = subst (λ x. events.Agrees x.selector s.events) (sym e) at.events;
  events_port = ap (λ x. x.port) e ∙ at.events_port;
  jobs = subst (λ x. jobs.Agrees x s.jobs s.done) (sym j) at.jobs;
  jobs_port = ap (λ x. x.port) j ∙ at.jobs_port;
  held = at.held;
  closed = at.closed;
  given_up = at.given_up;
}

-- Rows of suspended senders change nothing of it

state-listed : (c : StateView) (port : Opening) (s : State) (from : Sender) (seq : ℕ) → IsStateOf c port s → IsStateOf c port (after port s (Listed from seq))
state-listed c port s from seq is = record {
  number = is.number;
  processes = is.processes;
  kind = is.kind;
  ties = is.ties;
  flags = is.flags;
  watches = is.watches;
  reason = is.reason;
  closer = is.closer;
  stopped = is.stopped;
  stage = is.stage;
  busy = is.busy;
  due = is.due;
  served = is.served;
  stands = is.stands;
}

state-resumed : (c : StateView) (port : Opening) (s : State) (from : Sender) (seq word : ℕ) → IsStateOf c port s → IsStateOf c port (after port s (Resumed from seq word))
state-resumed c port s from seq word is = record {
  number = is.number;
  processes = is.processes;
  kind = is.kind;
  ties = is.ties;
  flags = is.flags;
  watches = is.watches;
  reason = is.reason;
  closer = is.closer;
  stopped = is.stopped;
  stage = is.stage;
  busy = is.busy;
  due = is.due;
  served = is.served;
  stands = is.stands;
}

pub listed-at : (v : ServedView) (port : Opening) (s : State) (from : Sender) (seq : ℕ) → IsAt v port s → IsAt v port (after port s (Listed from seq))
listed-at v port s from seq at = record {
  state = state-listed v.state port s from seq at.state;
  events = at.events;
  events_port = at.events_port;
  jobs = at.jobs;
  jobs_port = at.jobs_port;
  held = at.held;
  closed = at.closed;
  given_up = at.given_up;
}

pub resumed-at : (v : ServedView) (port : Opening) (s : State) (from : Sender) (seq word : ℕ) → IsAt v port s → IsAt v port (after port s (Resumed from seq word))
resumed-at v port s from seq word at = record {
  state = state-resumed v.state port s from seq word at.state;
  events = at.events;
  events_port = at.events_port;
  jobs = at.jobs;
  jobs_port = at.jobs_port;
  held = at.held;
  closed = at.closed;
  given_up = at.given_up;
}

-- At the start

pub start-at : (v : ServedView) (port : Opening) → IsStateOf v.state port (state_at_start port)
    → events.Agrees v.events.selector (map arm (selected_by (effects_of port.kind port.config (start_call port ∷ [])) [])) → v.events.port ≡ port.number
    → jobs.Agrees v.jobs (submitted_by (effects_of port.kind port.config (start_call port ∷ []))) [] → v.jobs.port ≡ port.number
    → IsAt v port (state_at_start port)
start-at v port state agrees p jobs q = record {
  state = state;
  events = agrees;
  events_port = p;
  jobs = jobs;
  jobs_port = q;
  held = λ runs. to-same port.kind port.config (start_call port ∷ []) (map arm (selected_by (effects_of port.kind port.config (start_call port ∷ [])) []))
      (start-held (effects_of port.kind port.config (start_call port ∷ [])));
  closed = λ e. absurd cc;
  given_up = λ e n dir. absurd cc;
}

-- a count of faults is no part of a history
pub state-faults : (c : StateView) (port : Opening) (s : State) (n : ℕ) → IsStateOf c port s → IsStateOf (record c { service = record c.service { faults = n } }) port s
state-faults c port s n is = record {
  number = is.number;
  processes = is.processes;
  kind = is.kind;
  ties = is.ties;
  flags = is.flags;
  watches = is.watches;
  reason = is.reason;
  closer = is.closer;
  stopped = is.stopped;
  stage = is.stage;
  busy = is.busy;
  due = is.due;
  served = is.served;
  stands = is.stands;
}

-- What handling a task left, put together.
use Rattle.std.proofs.Common.{◌≡◌, ℕ, Bool, true, List, ◌++◌, is_some, sym, ap, ◌∙◌, subst}
use Rattle.port_model.specs.declared.effect.Effect.{Effect}
use Rattle.port_model.specs.declared.signal.Sender.{Sender}
use Rattle.port_model.specs.declared.signal.Signal.{Signal}
use Rattle.port_model.specs.Tasks.{TaskView}
use Rattle.port_events.specs.port_history.Events.{Event, events_after}
use Rattle.port_events.specs.port_history.Jobs.{submitted_by, done_by}
use Rattle.port_events.specs.port_history.Opening.{Opening, taken_of}
use Rattle.port_events.specs.port_history.State.{State, is_closed_by, stops, after_handled}
use Rattle.port_events.specs.Asks.{asks_of}
use Rattle.port_events.specs.Table as table
use Rattle.port_events.specs.Table.{EventTable, KeepsEnd}
use Rattle.port_jobs.specs.Jobs as jobs
use Rattle.port_state.specs.port_mail.Rows.{IsRowOf}
use Rattle.port_state.specs.declared.served.Served.{Served}
use Rattle.port_state.specs.Served.{IsServed}
use Rattle.port_state.specs.View.{IsStateOf}
use Rattle.served_port.specs.View.{ServedView, IsAt}
use Rattle.served_port.specs.Outcomes.{is_handled, IsHandledRow, SubmitsJobs}
use Rattle.served_port.specs.Steps.{Follows}
use Rattle.served_port.proofs.Laws.{handled-keeps}
use Rattle.served_port.proofs.Rows.{handled-at, state-faults}

-- the same said of equal things
moved-events : (selector : _) (events : List Event) (effects : List Effect) (sig other : Signal) (closed shut stop halt : Bool) → sig ≡ other → closed ≡ shut → stop ≡ halt
    → table.Agrees selector (events_after sig effects closed stop events) → table.Agrees selector (events_after other effects shut halt events)
moved-events selector events effects sig other closed shut stop halt e f h agrees =
    subst (λ x. table.Agrees selector (events_after other effects shut x events)) h
    (subst (λ x. table.Agrees selector (events_after other effects x stop events)) f
    (subst (λ x. table.Agrees selector (events_after x effects closed stop events)) e agrees))

moved-asks : (port number : ℕ) (events : List Event) (effects : List Effect) (sig other : Signal) (closed shut stop halt : Bool) → port ≡ number → sig ≡ other → closed ≡ shut → stop ≡ halt
    → asks_of port sig effects closed stop events ≡ asks_of number other effects shut halt events
moved-asks port number events effects sig other closed shut stop halt p e f h =
    ap (λ x. asks_of x sig effects closed stop events) p
    ∙ (ap (λ x. asks_of number x effects closed stop events) e
    ∙ (ap (λ x. asks_of number other effects x stop events) f ∙ ap (λ x. asks_of number other effects shut x events) h))

pub handled-outcome : (old mid new : ServedView) (port : Opening) (s : State) (from : Sender) (seq : ℕ) (task : TaskView) (sig : Signal) (made : Served)
    → task.signal ≡ sig → IsAt old port s → is_handled s from task.signal ≡ true
    → IsServed port s (taken_of from seq task made.outside made.effects) sig made mid.state → mid.events ≡ old.events → mid.jobs ≡ old.jobs
    → Follows sig made.effects (is_some mid.state.reason) made.closing.stops mid new
    → new.state ≡ record mid.state { service = record mid.state.service { faults = new.state.service.faults } }
    → KeepsEnd mid.events new.events → new.jobs.port ≡ mid.jobs.port
    → IsHandledRow port s from seq task made old new
handled-outcome old mid new port s from seq task sig made e at handled served ev jb follows same kept jp =
    let t = taken_of from seq task made.outside made.effects in
    let closed : is_some mid.state.reason ≡ is_closed_by s t = ap is_some served.state.reason in
    let halt : made.closing.stops ≡ stops port s t = served.mail.stops in
    let before = subst (λ (x : EventTable). table.Agrees x.selector s.events) (sym ev) at.events in
    record {
      handled = handled;
      keeps = handled-keeps port s from seq task made.outside made.effects handled served.effects;
      at = handled-at old new port s t at handled served.effects_are
          (subst (λ x. IsStateOf x port (after_handled port s t)) (sym same) (state-faults mid.state port (after_handled port s t) new.state.service.faults served.state))
          (moved-events new.events.selector s.events made.effects sig task.signal (is_some mid.state.reason) (is_closed_by s t) made.closing.stops (stops port s t)
          (sym e) closed halt (follows.events s.events before))
          (ap (λ (x : EventTable). x.port) kept ∙ ap (λ (x : EventTable). x.port) ev)
          (subst (λ x. jobs.Agrees new.jobs (s.jobs ++ submitted_by made.effects) (done_by x s.done)) (sym e)
          (follows.jobs s.jobs s.done (subst (λ x. jobs.Agrees x s.jobs s.done) (sym jb) at.jobs)))
          (jp ∙ ap (λ x. x.port) jb);
      closes = served.closes;
      mail = subst (λ x. IsRowOf made.handling made.effects x made.closing port s t) (sym e) served.mail;
      asks = follows.asks s.events before
          ∙ (ap (λ (x : EventTable). x.asks.sent ++ asks_of mid.events.port sig made.effects (is_some mid.state.reason) made.closing.stops s.events) ev
          ∙ ap (λ x. old.events.asks.sent ++ x) (moved-asks mid.events.port port.number s.events made.effects sig task.signal (is_some mid.state.reason) (is_closed_by s t)
          made.closing.stops (stops port s t) (ap (λ (x : EventTable). x.port) ev ∙ at.events_port) (sym e) closed halt));
      jobs = subst (λ x. SubmitsJobs port.number made.effects x new.jobs.lanes) (ap (λ x. x.lanes) jb)
          (subst (λ x. SubmitsJobs x made.effects mid.jobs.lanes new.jobs.lanes) (ap (λ x. x.port) jb ∙ at.jobs_port) follows.submits);
    }

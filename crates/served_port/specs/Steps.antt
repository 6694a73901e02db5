-- The steps of a handled task's row.
use Rattle.std.specs.Prelude.{◌≡◌, ◌++◌, ℕ, List, Bool, true, map}
use Rattle.std.specs.List.{flat_map}
use Rattle.port_model.specs.declared.effect.Effect.{Effect}
use Rattle.port_model.specs.declared.signal.Sender.{Sender}
use Rattle.port_model.specs.declared.signal.Signal.{Signal}
use Rattle.port_events.specs.port_history.Events.{Event, events_after, selected_by, arm}
use Rattle.port_events.specs.port_history.Jobs.{Submitted, submitted_by, done_by}
use Rattle.port_events.specs.port_history.Opening.{Opening}
use Rattle.port_events.specs.port_history.State.{State}
use Rattle.port_events.specs.Asks.{arm_asks, asks_of}
use Rattle.port_events.specs.Table as table
use Rattle.port_events.specs.Table.{EventTable}
use Rattle.port_jobs.specs.Jobs as jobs
use Rattle.served_port.specs.View.{ServedView, IsAt}
use Rattle.served_port.specs.Outcomes.{is_handled, SubmitsJobs}

-- the port is at a place of some history at which it handles this task
pub record Handles (v : ServedView) (from : Sender) (signal : Signal) : Type 0 where
  pub port : Opening
  pub s : State
  pub at : IsAt v port s
  pub handled : is_handled s from signal ≡ true

-- the events followed the effects of a start
pub record StartsEvents (old : EventTable) (effects : List Effect) (new : EventTable) : Type 0 where
  pub agrees : (events : List Event) → table.Agrees old.selector events → table.Agrees new.selector (map arm (selected_by effects events))
  pub asks : (events : List Event) → table.Agrees old.selector events → new.asks.sent ≡ old.asks.sent ++ flat_map (arm_asks old.port) (selected_by effects events)

-- the events and the jobs followed the effects of a handled task
pub record Follows (signal : Signal) (effects : List Effect) (closed stops : Bool) (old new : ServedView) : Type 0 where
  pub events : (events : List Event) → table.Agrees old.events.selector events
      → table.Agrees new.events.selector (events_after signal effects closed stops events)
  pub asks : (events : List Event) → table.Agrees old.events.selector events
      → new.events.asks.sent ≡ old.events.asks.sent ++ asks_of old.events.port signal effects closed stops events
  pub submits : SubmitsJobs old.jobs.port effects old.jobs.lanes new.jobs.lanes
  pub jobs : (submitted : List Submitted) (done : List ℕ) → jobs.Agrees old.jobs submitted done
      → jobs.Agrees new.jobs (submitted ++ submitted_by effects) (done_by signal done)

-- A port with its driver, its events and its jobs, as contracts see it, and what it says of a history.
use Rattle.std.specs.Prelude.{◌≡◌, ◌≤◌, ℕ, List, map, true, false}
use Rattle.task_queue.specs.Ends.{LaneId, Sending}
use Rattle.port_driver.specs.driver_model.Drivers.{held_events}
use Rattle.port_driver.specs.Context.{SameEvents}
use Rattle.port_driver.specs.declared.life.Life.TheVariants.{Fresh}
use Rattle.port_model.specs.declared.event.Dir.{Dir}
use Rattle.port_events.specs.port_history.Events.{event_of, is_selected}
use Rattle.port_events.specs.port_history.Opening.{Opening}
use Rattle.port_events.specs.port_history.State.{State, is_open}
use Rattle.port_events.specs.Table as events
use Rattle.port_events.specs.Table.{EventTable, KeepsEnd, held_of}
use Rattle.port_jobs.specs.Jobs as jobs
use Rattle.port_jobs.specs.Jobs.{JobsView}
use Rattle.port_state.specs.View.{StateView, IsStateOf, IsSamePort}

pub record ServedView : Type 0 where
  pub state : StateView
  pub events : EventTable
  pub jobs : JobsView

-- it is what a history says of its port: the state, the events, of which a driver that runs holds the same, and the jobs. A driver is stopped only
-- where the port is closed, and then no event is selected
pub record IsAt (v : ServedView) (port : Opening) (s : State) : Type 0 where
  pub state : IsStateOf v.state port s
  pub events : events.Agrees v.events.selector s.events
  pub events_port : v.events.port ≡ port.number
  pub jobs : jobs.Agrees v.jobs s.jobs s.done
  pub jobs_port : v.jobs.port ≡ port.number
  pub held : s.stopped ≡ false → SameEvents (held_of s.events) (held_events port.kind port.config s.calls)
  pub closed : s.stopped ≡ true → is_open s ≡ false
  pub given_up : s.stopped ≡ true → (n : ℕ) (dir : Dir) → is_selected dir (event_of n s.events) ≡ false

-- it is what some history says of its port
pub record IsSomewhere (v : ServedView) : Type 0 where
  pub port : Opening
  pub s : State
  pub at : IsAt v port s

-- which sending end it is: of which lane, with which number, and how many ends it made
pub record EndName : Type 0 where
  pub lane : LaneId
  pub number : ℕ
  pub made : ℕ

abbrev pub end_name : {T K : Type 0} → Sending T K → EndName
end_name end = record { lane = end.lane; number = end.number; made = end.made }

abbrev pub end_names : {T K : Type 0} → List (Sending T K) → List EndName
end_names ends = map end_name ends

-- the same port, with the same ends, of which those in the lanes of the poller and of the workers may have sent more, and with a driver that may have
-- counted more faults, and is fresh only if it was
pub record IsSameServed (old new : ServedView) : Type 0 where
  pub state : IsSamePort old.state new.state
  pub faults : old.state.service.faults ≤ new.state.service.faults
  pub life : new.state.service.stage ≡ Fresh → old.state.service.stage ≡ Fresh
  pub events : KeepsEnd old.events new.events
  pub jobs : new.jobs.port ≡ old.jobs.port
  pub pool : end_names new.jobs.lanes ≡ end_names old.jobs.lanes

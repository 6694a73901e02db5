-- A port that just was opened.
use Rattle.std.specs.Prelude.{◌≡◌, ◌++◌, ◌∷◌, []}
use Rattle.std.specs.List.{flat_map}
use Rattle.port_driver.specs.driver_model.Drivers.{effects_of}
use Rattle.port_events.specs.port_history.Events.{selected_by}
use Rattle.port_events.specs.port_history.Opening.{Opening}
use Rattle.port_events.specs.port_history.State.{start_call, state_at_start}
use Rattle.port_events.specs.Asks.{arm_asks}
use Rattle.served_port.specs.declared.ends.PortEnds.{PortEnds}
use Rattle.served_port.specs.Outcomes.{SubmitsJobs}
use Rattle.served_port.specs.View.{ServedView, IsAt, end_names}

-- the port stands at the start of its history, with these ends: the poller was asked for each event that the start selected, and the workers were given its jobs
pub record IsAtStart (port : Opening) (ends : PortEnds) (v : ServedView) : Type 0 where
  pub at : IsAt v port (state_at_start port)
  pub end : v.events.asks ≡ record ends.asks { sent = v.events.asks.sent }
  pub pool : end_names v.jobs.lanes ≡ end_names ends.pool
  pub asks : v.events.asks.sent ≡ ends.asks.sent ++ flat_map (arm_asks port.number) (selected_by (effects_of port.kind port.config (start_call port ∷ [])) [])
  pub jobs : SubmitsJobs port.number (effects_of port.kind port.config (start_call port ∷ [])) ends.pool v.jobs.lanes

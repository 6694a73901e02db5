-- A lane for a port that is to be opened, and a body that was just opened.
use Rattle.std.specs.Prelude.{◌≡◌, ℕ, [], false}
use Rattle.task_queue.specs.Ends.{Taking}
use Rattle.port_driver.specs.driver_model.Calls.{Kind}
use Rattle.port_driver.specs.driver_model.Drivers.{read_event_of, write_event_of}
use Rattle.port_driver.specs.port_config.declared.config.Config.{Config}
use Rattle.port_lanes.specs.Keys.{Key}
use Rattle.port_lanes.specs.Parcels.{ParcelView}
use Rattle.recorded_port.specs.served_port.declared.ends.PortPlace.{PortPlace}
use Rattle.recorded_port.specs.served_port.View.{end_name, end_names}
use Rattle.recorded_port.specs.declared.parts.PortOutlets.{PortOutlets}
use Rattle.port_body.specs.Body.{BodyView, BodyName, name_of}

-- nothing was taken from it, and its key has the port's words and the numbers of processes and workers
pub record FitsPlace (place : PortPlace) (workers : ℕ) (outlets : PortOutlets) (lane : Taking ParcelView Key) : Type 0 where
  pub taken : lane.taken ≡ []
  pub processes : lane.key.processes ≡ place.processes
  pub workers_are : lane.key.workers ≡ workers
  pub table : lane.key.table ≡ outlets.seat.table

-- A name that has each part as it was handed in, and the events of the program that the driver started with
pub record IsNameOf (place : PortPlace) (kind : Kind) (faults : ℕ) (config : Config) (workers : ℕ) (outlets : PortOutlets) (lane : Taking ParcelView Key) (name : BodyName) : Type 0 where
  pub number : name.opening.number ≡ place.number
  pub opening_processes : name.opening.processes ≡ place.processes
  pub kind_is : name.opening.kind ≡ kind
  pub config_is : name.opening.config ≡ config
  pub owner : name.opening.owner ≡ place.owner
  pub processes : name.processes ≡ place.processes
  pub workers_are : name.workers ≡ workers
  pub lane_is : name.lane ≡ lane.lane
  pub key : name.key ≡ lane.key
  pub table : name.table ≡ outlets.seat.table
  pub setup_is : name.setup ≡ outlets.seat.known.setup
  pub joined_is : name.joined ≡ outlets.seat.known.senders
  pub mailboxes : name.mailboxes ≡ end_names outlets.mailboxes
  pub asks : name.asks ≡ end_name outlets.ends.asks
  pub pool : name.pool ≡ end_names outlets.ends.pool
  pub faults_are : name.faults ≡ faults

-- It has this name, its lane is the one handed in, it has no row, nothing waits, and it isn't broken or finished
pub record IsOpenedBody (place : PortPlace) (kind : Kind) (faults : ℕ) (config : Config) (workers : ℕ) (outlets : PortOutlets) (lane : Taking ParcelView Key) (v : BodyView) : Type 0 where
  pub name : IsNameOf place kind faults config workers outlets lane (name_of v)
  pub read : v.lane_port.port.opening.read ≡ read_event_of v.lane_port.port.port.state.service.own
  pub write : v.lane_port.port.opening.write ≡ write_event_of v.lane_port.port.port.state.service.own
  pub lane_is : v.lane_port.lane ≡ lane
  pub rows : v.lane_port.port.rows ≡ []
  pub waiting : v.lane_port.waiting.items ≡ []
  pub whole : v.broken ≡ false
  pub unfinished : v.finished ≡ false

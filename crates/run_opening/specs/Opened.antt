-- The ports of a run, opened, and the lanes and words that tie them to the jobs.
use Rattle.std.specs.Prelude.{◌≡◌, ◌<◌, ◌≤◌, ℕ, Bool, true, false, None, List, length, map, All, slice_index_or}
use Rattle.std.specs.Option.{option_map_or}
use Rattle.driver_hosts.specs.driver_model.Calls.{Kind}
use Rattle.driver_hosts.specs.driver_model.Drivers.{is_soft}
use Rattle.port_config.specs.declared.config.Config.{Config}
use Rattle.port_config.specs.Config.{is_config}
use Rattle.port_words.specs.declared.busy.view.QueueLimits.{QueueLimits}
use Rattle.script_plan.specs.declared.decl.PortDecl.{PortDecl}
use Rattle.run_lanes.specs.declared.size.LaneSize.{LaneSize}
use Rattle.run_lanes.specs.declared.parts.PortLanes.{PortLanes}
use Rattle.run_lanes.specs.declared.parts.ProcessLanes.{ProcessLanes}
use Rattle.run_lanes.specs.declared.parts.WorkerLanes.{WorkerLanes}
use Rattle.run_lanes.specs.declared.parts.RunLanes.{RunLanes}
use Rattle.run_lanes.specs.Opened.{HasCounts, HasPort, HasProcess, HasWorker, HasPoller, HasFinish, CanOpen, CanBegin}
use Rattle.driver_hosts.specs.declared.hosted.Hosted.{Hosted}
use Rattle.driver_hosts.specs.declared.room.PortRoom.{PortRoom}
use Rattle.driver_hosts.specs.Finding.{Found}
use Rattle.driver_hosts.specs.Opening.{AreOpened}
use Rattle.run_opening.specs.declared.opening.JobLanes.{JobLanes}
use Rattle.run_opening.specs.declared.opening.OpenPorts.{OpenPorts}

-- the ports, the processes and the workers are within their limits, each port's owner is one of the processes, and its options lie in their ranges
pub record AreDeclared (size : LaneSize) (ports : List PortDecl) : Type 0 where
  pub few_ports : length ports ≤ 32
  pub few_processes : size.processes ≤ 32
  pub some_workers : 0 < size.workers
  pub few_workers : size.workers ≤ 8
  pub owners : All (λ p. p.owner < size.processes) ports
  pub configs : All (λ p. is_config p.config ≡ true) ports

-- the limits of a port's message queue
abbrev pub limits_of : Config → QueueLimits
limits_of config = record { on = config.msgq_on; low = config.msgq_low; high = config.msgq_high }

-- where a port of a run of this size takes its tasks from, and where it puts what it sends and marks
abbrev pub room_of : LaneSize → PortLanes → PortRoom
room_of size port = record {
  lane = port.lane;
  outlets = record { mailboxes = port.mailboxes; seat = port.seat; ends = record { asks = port.asks; pool = port.pool } };
  processes = size.processes;
  workers = size.workers;
  rows = size.rows;
}

-- these are the lanes and words of a run of this size, whose ports have these limits, before anything was sent
pub record AreRunLanes (size : LaneSize) (limits : List QueueLimits) (run : RunLanes) : Type 0 where
  pub counts : HasCounts size (length limits) run
  pub ports : (port : ℕ) (l : QueueLimits) (d : PortLanes) → port < length limits → HasPort size (slice_index_or limits port l) run port (slice_index_or run.ports.items port d)
  pub processes : (process : ℕ) (d : ProcessLanes) → process < size.processes → HasProcess size run process (slice_index_or run.processes.items process d)
  pub workers : (worker : ℕ) (d : WorkerLanes) → worker < size.workers → HasWorker size run worker (slice_index_or run.workers.items worker d)
  pub poller : HasPoller size run
  pub finish : HasFinish size run
  pub can_open : (port : ℕ) (d : PortLanes) → port < length limits → CanOpen size (slice_index_or run.ports.items port d)
  pub can_begin : (process : ℕ) (d : ProcessLanes) → process < size.processes → CanBegin (length limits) process (slice_index_or run.processes.items process d)

-- the lanes of the jobs are those of a run
pub record IsPartOf (run : RunLanes) (lanes : JobLanes) : Type 0 where
  pub processes : lanes.processes.items ≡ run.processes.items
  pub workers : lanes.workers.items ≡ run.workers.items
  pub poller : lanes.poller ≡ run.poller
  pub finish : lanes.finish ≡ run.finish

-- the rooms of the ports and the lanes of the jobs are those of one run
pub record HaveLanes (size : LaneSize) (limits : List QueueLimits) (rooms : List PortRoom) (lanes : JobLanes) : Type 0 where
  pub run : RunLanes
  pub are : AreRunLanes size limits run
  pub rooms_are : rooms ≡ map (room_of size) run.ports.items
  pub lanes_are : IsPartOf run lanes

module _ {D : Type 0} where
  -- whether a driver that is handed in takes forced commands while its port is busy
  abbrev pub soft_of : (D → Kind) → Hosted D → Bool
  soft_of kind host = option_map_or (λ d. is_soft (kind d)) host.driver false

  -- so of the driver at each of these places, and not of a place where there is none
  abbrev pub soft_at : (D → Kind) → List (Hosted D) → List ℕ → List Bool
  soft_at kind hosts places = map (λ at. soft_of kind (slice_index_or hosts at (record { port = None; driver = None }))) places

  -- each port was opened with the driver that was found for it, in its room among the lanes and words of the run
  pub record HaveOpened (kind : D → Kind) (faults : D → ℕ) (size : LaneSize) (ports : List PortDecl) (old new : List (Hosted D)) (o : OpenPorts D) : Type 0 where
    pub run : RunLanes
    pub are : AreRunLanes size (map (λ (p : PortDecl). limits_of p.config) ports) run
    pub lanes_are : IsPartOf run o.lanes
    pub found : Found kind old ports o.places.items
    pub count : length o.bodies.items ≡ length ports
    pub soft : o.soft.items ≡ soft_at kind old o.places.items
    pub opened : AreOpened kind faults ports (map (room_of size) run.ports.items) o.places.items old new o.bodies.items

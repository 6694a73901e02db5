-- Those beside the one port, as they are dealt their lanes: three processes, the poller and two workers.
use Rattle.std.specs.Prelude.{◌≡◌, ◌<◌, ◌≤◌, ◌-◌, ℕ, Bool, true, false, List, length, slice_index_or}
use Rattle.port_model.specs.declared.signal.Sender.{Sender}
use Rattle.port_model.specs.declared.signal.Sender.TheVariants.{Poller, Worker}
use Rattle.process_end.specs.Views.{LaneEnd, ProcView}
use Rattle.process_end.specs.port_lanes.Keys.{sender_at}
use Rattle.run_lanes.specs.declared.parts.ProcessLanes.{ProcessLanes}
use Rattle.run_lanes.specs.declared.parts.WorkerLanes.{WorkerLanes}
use Rattle.run_lanes.specs.declared.parts.PortLanes.{PortLanes}
use Rattle.run_lanes.specs.declared.parts.RunLanes.{RunLanes}
use Rattle.run_lanes.specs.Opened.{CanBegin, CanOpen}

-- one lane, among three processes
pub record AreOfOne (lanes : List LaneEnd) : Type 0 where
  pub many : length lanes ≡ 1
  pub key : (d : LaneEnd) → (slice_index_or lanes 0 d).key.processes ≡ 3

-- the process has one port, among three processes
abbrev pub IsOfOnePort : ProcView → Type 0
IsOfOnePort p = AreOfOne p.lanes

-- the process of this number can begin
pub record CanServe (number : ℕ) (p : ProcessLanes) : Type 0 where
  pub begins : CanBegin 1 number p
  pub lanes : AreOfOne p.lanes.items

-- each can
pub record CanServeEach (all : List ProcessLanes) : Type 0 where
  pub few : length all ≤ 32
  pub each : (process : ℕ) (d : ProcessLanes) → process < length all → CanServe process (slice_index_or all process d)

-- it is the poller's end
abbrev pub IsOfPoller : LaneEnd → Type 0
IsOfPoller lane = sender_at lane.key lane.number ≡ Poller

abbrev pub is_worker : Sender → Bool
is_worker (Worker worker) = true
is_worker sender = false

-- it is a worker's end
abbrev pub IsOfWorker : LaneEnd → Type 0
IsOfWorker lane = is_worker (sender_at lane.key lane.number) ≡ true

-- the last of these ends is of this kind
abbrev pub LastIs : (LaneEnd → Type 0) → List LaneEnd → Type 0
LastIs P lanes = (d : LaneEnd) → P (slice_index_or lanes (length lanes - 1) d)

-- each has one end, which is a worker's
abbrev pub AreOfWorkers : List WorkerLanes → Type 0
AreOfWorkers all = (worker : ℕ) (d : WorkerLanes) → worker < length all → LastIs IsOfWorker (slice_index_or all worker d).lanes.items

-- the last of these ports can be opened among three processes and two workers
abbrev pub LastCanOpen : List PortLanes → Type 0
LastCanOpen ports = (d : PortLanes) → CanOpen (record { processes = 3; workers = 2; rows = 0 }) (slice_index_or ports (length ports - 1) d)

-- the lanes of one port, three processes and two workers
pub record IsDealtToOne (run : RunLanes) : Type 0 where
  pub ports : LastCanOpen run.ports.items
  pub processes : CanServeEach run.processes.items
  pub workers : AreOfWorkers run.workers.items
  pub poller : LastIs IsOfPoller run.poller.lanes.items

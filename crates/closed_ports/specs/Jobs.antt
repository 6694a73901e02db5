-- The workers of a run whose ports are closed.
use Rattle.std.specs.Prelude.{◌≡◌, ◌<◌, ◌+◌, ℕ, List, length, reverse, slice_index_or}
use Rattle.async_jobs.specs.Pool.{PoolEnd}
use Rattle.port_history.specs.Lawful.{Lawful}
use Rattle.driver_hosts.specs.port_body.Body.{BodyView, BodyName, name_of}
use Rattle.driver_hosts.specs.declared.ending.EndedPort.{EndedPort}
use Rattle.driver_hosts.specs.served_port.View.{EndName}
use Rattle.closed_ports.specs.Ends.{LaneEnd}
use Rattle.closed_ports.specs.Laws.{AreAllColumns}
use Rattle.told_jobs.specs.Runs.{HasSettled, WorkerRun}
use Rattle.told_jobs.specs.Told.{WorkersTell}
use Rattle.closed_ports.specs.Closed.{AreClosed}

-- The port of this number, of so many ports and workers, by its name: it has an end of its number in the lane of each worker, of which those of number 0 made all others, one for each port,
-- and a last one
pub record IsNumbered (ports workers number : ℕ) (name : BodyName) : Type 0 where
  pub number_is : name.opening.number ≡ number
  pub workers_are : name.key.workers ≡ workers
  pub pool_many : length name.pool ≡ workers
  pub pool_numbers : (worker : ℕ) (d : EndName) → worker < workers → (slice_index_or name.pool worker d).number ≡ number
  pub pool_made : (worker : ℕ) (d : EndName) → worker < workers → number ≡ 0 → (slice_index_or name.pool worker d).made ≡ ports + 1

-- The workers of a run with these ports, whose columns of ends come last: each answered the jobs of its lane, which took in the ends that the ports had of it
pub record HaveWorkedFor (bodies : List BodyView) (columns : List (List LaneEnd)) (ports : List EndedPort) (workers : List WorkerRun) : Type 0 where
  pub some : 0 < length workers
  pub numbered : (port : ℕ) (v : BodyView) → port < length bodies → IsNumbered (length bodies) (length workers) port (name_of (slice_index_or bodies port v))
  pub worked : (worker : ℕ) (w : WorkerRun) → worker < length workers → HasSettled (length bodies) (slice_index_or workers worker w)
  pub ends : (port worker : ℕ) (p : EndedPort) (w : WorkerRun) (d e : PoolEnd) → port < length bodies → worker < length workers
      → slice_index_or (slice_index_or workers worker w).ends port d ≡ slice_index_or (slice_index_or ports port p).outlets.ends.pool worker e
  pub sent : (port worker : ℕ) (v : BodyView) (w : WorkerRun) (c : List LaneEnd) (d : LaneEnd) → port < length bodies → worker < length workers
      → slice_index_or (slice_index_or columns ((name_of (slice_index_or bodies port v)).key.processes + 1 + worker) c) port d ≡ slice_index_or (slice_index_or workers worker w).sent port d

-- so each worker told each port the first of its jobs there, in their order, and the history of each port keeps all laws
abbrev pub ClosedPortsAreLawful : Type 0
ClosedPortsAreLawful = (bodies : List BodyView) (columns : List (List LaneEnd)) (ports : List EndedPort) (workers : List WorkerRun) → AreAllColumns bodies columns → AreClosed bodies columns ports
    → HaveWorkedFor bodies columns ports workers → (port : ℕ) (v : BodyView) (p : EndedPort) → port < length bodies
    → WorkersTell (length workers) (name_of (slice_index_or bodies port v)).opening (reverse (slice_index_or ports port p).journal.rows)
    × Lawful (name_of (slice_index_or bodies port v)).opening (reverse (slice_index_or ports port p).journal.rows)

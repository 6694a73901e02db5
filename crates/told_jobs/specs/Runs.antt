-- The jobs of a run on threads, as its ports and its workers leave them.
use Rattle.std.specs.Prelude.{◌≡◌, ℕ, ◌+◌, ◌<◌, ◌≤◌, List, [], ◌∷◌, ◌++◌, length, map, All, slice_index_or}
use Rattle.task_queue.specs.declared.item.Item.{Item}
use Rattle.task_queue.specs.Ends.{KeepsOrder, ended_of}
use Rattle.async_jobs.specs.declared.job.WorkItem.{WorkItem}
use Rattle.async_jobs.specs.declared.job.WorkItem.TheVariants.{Finish}
use Rattle.async_jobs.specs.Items.{AnyFits}
use Rattle.async_jobs.specs.Pool.{Lanes, PoolEnd}
use Rattle.async_jobs.specs.Turns.{Worker}
use Rattle.port_model.specs.declared.row.Row.{Row}
use Rattle.port_model.specs.declared.signal.Sender.TheVariants as sender
use Rattle.port_body.specs.port_lanes.Parcels.{ParcelView}
use Rattle.port_history.specs.Lawful.{Lawful}
use Rattle.port_history.specs.Opening.{Opening}
use Rattle.run_jobs.specs.process_end.Views.{LaneEnd}
use Rattle.port_body.specs.recorded_port.Asks.{GaveJobs}
use Rattle.port_body.specs.recorded_port.Laws.{IsLawful}
use Rattle.port_body.specs.LanePort.{rows_from}
use Rattle.run_jobs.specs.declared.worker.WorkerEnd.{WorkerEnd}
use Rattle.run_jobs.specs.Working.{WorksTo}
use Rattle.told_jobs.specs.Told.{WorkersTell}

-- what was fixed at the opening of a port, its history, newest row first, and its ends of the workers' lanes, by the numbers of the workers
pub record PortRun : Type 0 where
  pub opening : Opening
  pub history : List Row
  pub pool : Lanes

-- A worker: how it ended, its end of its lane before and after it worked, and then once others of the lane's ends were taken in: those of the ports, by their
-- numbers, and a last one; and its ends of the ports' lanes, by the numbers of the ports, before and after it worked
pub record WorkerRun : Type 0 where
  pub how : WorkerEnd
  pub before : Worker
  pub after : Worker
  pub settled : Worker
  pub ends : List PoolEnd
  pub last : PoolEnd
  pub unsent : List LaneEnd
  pub sent : List LaneEnd

-- The port of this number, of so many ports and workers: it saw to its laws, and its jobs, and no other, went into the lanes of their workers, in order. Its end of
-- each worker's lane has its number; the ends of number 0 made all others, one for each port, and the last
pub record HasGiven (ports workers number : ℕ) (p : PortRun) : Type 0 where
  pub number_is : p.opening.number ≡ number
  pub lawful : IsLawful p.opening p.history
  pub gave : GaveJobs p.opening p.history p.pool
  pub many : length p.pool ≡ workers
  pub numbers : (worker : ℕ) (d : PoolEnd) → worker < workers → (slice_index_or p.pool worker d).number ≡ number
  pub made : (worker : ℕ) (d : PoolEnd) → worker < workers → number ≡ 0 → (slice_index_or p.pool worker d).made ≡ ports + 1

-- A worker of a run with so many ports: it took jobs of its lane from the first item on, and its ends of the ports' lanes sent the answers and nothing else. More was
-- taken from the lane later, by an end that took in those of the ports and the last one, which sent no job
pub record HasSettled (ports : ℕ) (w : WorkerRun) : Type 0 where
  pub works : WorksTo w.how w.before w.after w.unsent w.sent
  pub untaken : w.before.taken ≡ []
  pub lanes_many : length w.unsent ≡ ports
  pub unsent : (port : ℕ) (d : LaneEnd) → port < ports → (slice_index_or w.unsent port d).sent ≡ []
  pub more : List (Item WorkItem)
  pub later : w.settled.taken ≡ w.after.taken ++ more
  pub order : KeepsOrder AnyFits w.settled
  pub ended : w.settled.ended ≡ map ended_of w.ends ++ ended_of w.last ∷ []
  pub ends_many : length w.ends ≡ ports
  pub last_is : w.last.number ≡ ports
  pub finishes : All (λ item. item ≡ Finish) w.last.sent

-- A run of ports and workers that has ended. The ends that each worker's lane had are those of the ports, and what a worker sent to a port has its rows there, and no
-- other worker has one
pub record HasRun (ports : List PortRun) (workers : List WorkerRun) : Type 0 where
  pub some : 0 < length workers
  pub given : (port : ℕ) (p : PortRun) → port < length ports → HasGiven (length ports) (length workers) port (slice_index_or ports port p)
  pub worked : (worker : ℕ) (w : WorkerRun) → worker < length workers → HasSettled (length ports) (slice_index_or workers worker w)
  pub ends : (port worker : ℕ) (p : PortRun) (w : WorkerRun) (d e : PoolEnd) → port < length ports → worker < length workers
      → slice_index_or (slice_index_or workers worker w).ends port d ≡ slice_index_or (slice_index_or ports port p).pool worker e
  pub rows : (port worker : ℕ) (p : PortRun) (w : WorkerRun) (d : LaneEnd) → port < length ports → worker < length workers
      → rows_from (sender.Worker worker) (slice_index_or ports port p).history
      ≡ map (λ (parcel : ParcelView). parcel.task) (slice_index_or (slice_index_or workers worker w).sent port d).sent
  pub others : (port worker : ℕ) (p : PortRun) → port < length ports → length workers ≤ worker → rows_from (sender.Worker worker) (slice_index_or ports port p).history ≡ []

-- in such a run each port is told its jobs in their order, and so its history keeps all laws
abbrev pub WorkersTellJobs : Type 0
WorkersTellJobs = (ports : List PortRun) (workers : List WorkerRun) → HasRun ports workers → (port : ℕ) (p : PortRun) → port < length ports
    → WorkersTell (length workers) (slice_index_or ports port p).opening (slice_index_or ports port p).history
    × Lawful (slice_index_or ports port p).opening (slice_index_or ports port p).history

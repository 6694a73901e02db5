-- The lanes of ports.
use Rattle.std.specs.Prelude.{◌≡◌, ◌<◌, ◌+◌, ℕ, List, length, slice_index_or}
use Rattle.task_queue.specs.Ends.{Taking}
use Rattle.port_words.specs.busy.Known.{PortKnown}
use Rattle.process_end.specs.port_lanes.Keys.{Key}
use Rattle.process_end.specs.port_lanes.Parcels.{ParcelView}
use Rattle.run_lanes.specs.declared.size.LaneSize.{LaneSize}
use Rattle.run_lanes.specs.Ends.{IsUntaken}

-- how many ends a port's lane has: those of the processes, the poller's and those of the workers
abbrev pub ends_in : LaneSize → ℕ
ends_in size = size.processes + 1 + size.workers

-- the key of the lane of the port that has this seat
abbrev pub key_of : LaneSize → PortKnown → Key
key_of size seat = record { processes = size.processes; workers = size.workers; table = seat.table }

-- a lane for each port, in the order of the ports
pub record ArePortLanes (size : LaneSize) (seats : List PortKnown) (takers : List (Taking ParcelView Key)) : Type 0 where
  pub many : length takers ≡ length seats
  pub each : (port : ℕ) (s : PortKnown) (t : Taking ParcelView Key) → port < length seats → IsUntaken (key_of size (slice_index_or seats port s)) (slice_index_or takers port t)

-- The parts of what the jobs and the ports of a run leave.
use Rattle.std.specs.Prelude.{◌≡◌, ◌<◌, ℕ, List, [], ◌∷◌, ◌++◌, length, slice_index, slice_index_or}
use Rattle.std.specs.Option.{option_map_or}
use Rattle.async_jobs.specs.Pool.{Lanes}
use Rattle.run_opening.specs.driver_hosts.declared.ending.EndedPort.{EndedPort}
use Rattle.run_opening.specs.driver_hosts.declared.hosted.Hosted.{Hosted}
use Rattle.driver_model.specs.Calls.{Own}
use Rattle.driver_model.specs.Drivers.{read_event_of, write_event_of}
use Rattle.closed_ports.specs.Ends.{LaneEnd}
use Rattle.closed_lanes.specs.declared.closing.ClosedPort.{ClosedPort}

-- the ends of the ports' lanes, by the numbers of their senders: those of the processes, then the poller's, then those of the workers
abbrev pub all_columns : List (List LaneEnd) → List LaneEnd → List (List LaneEnd) → List (List LaneEnd)
all_columns processes poller workers = (processes ++ poller ∷ []) ++ workers

-- what is kept of an ended port, beside the events of its driver's program
abbrev pub closed_of : ℕ × ℕ → EndedPort → ClosedPort
closed_of events left = record { config = left.config; events = events; journal = left.journal; mailboxes = left.outlets.mailboxes; seat = left.outlets.seat }

module _ {D : Type 0} where
  -- the read event and the write event of the program of the driver at a place, 0 and 0 without one
  abbrev pub events_of : (D → Own) → Hosted D → ℕ × ℕ
  events_of own host = option_map_or (λ d. (read_event_of (own d), write_event_of (own d))) host.driver (0, 0)

  -- what is kept of each ended port, with the events of the driver at its place, and its ends of the workers' lanes
  pub record ArePartedInto (own : D → Own) (hosts : List (Hosted D)) (places : List ℕ) (left : List EndedPort) (ports : List ClosedPort) (pools : List Lanes) : Type 0 where
    pub many : length ports ≡ length left
    pub pools_many : length pools ≡ length left
    pub each : (port : ℕ) (h : Hosted D) (l : EndedPort) (p : ClosedPort) → port < length left
        → slice_index_or ports port p ≡ closed_of (events_of own (slice_index_or hosts (slice_index places port) h)) (slice_index_or left port l)
    pub pools_are : (port : ℕ) (l : EndedPort) (q : Lanes) → port < length left → slice_index_or pools port q ≡ (slice_index_or left port l).outlets.ends.pool

-- The lanes and words of a run, by place.
use Rattle.std.specs.Prelude.{◌≡◌, ◌+◌, ℕ, Bool, List, [], length, All, slice_index_or}
use Rattle.async_jobs.specs.Pool.{PoolEnd}
use Rattle.port_mail.specs.Ends.{MailEnd}
use Rattle.port_words.specs.declared.busy.view.QueueLimits.{QueueLimits}
use Rattle.process_end.specs.Ports.{AreParts}
use Rattle.process_end.specs.Views.{LaneEnd}
use Rattle.run_lanes.specs.declared.size.LaneSize.{LaneSize}
use Rattle.run_lanes.specs.declared.parts.PortLanes.{PortLanes}
use Rattle.run_lanes.specs.declared.parts.ProcessLanes.{ProcessLanes}
use Rattle.run_lanes.specs.declared.parts.WorkerLanes.{WorkerLanes}
use Rattle.run_lanes.specs.declared.parts.RunLanes.{RunLanes}
use Rattle.run_lanes.specs.Ends.{IsUntaken, AreEndsOf, new_end}
use Rattle.run_lanes.specs.Words.{IsPortSeat, AreSeatsWith}
use Rattle.run_lanes.specs.Keyed.{ends_in, key_of}

-- so many ports, processes and workers
pub record HasCounts (size : LaneSize) (ports : ℕ) (run : RunLanes) : Type 0 where
  pub ports_many : length run.ports.items ≡ ports
  pub processes_many : length run.processes.items ≡ size.processes
  pub workers_many : length run.workers.items ≡ size.workers

-- The port of this number: nothing was taken from its lane, whose key has its words; its words have these limits and a sender for each process, and it made no
-- mark. It has the end of its own number in the mailbox of each process, in the poller's lane and in the lane of each worker, and sent nothing
pub record HasPort (size : LaneSize) (limits : QueueLimits) (run : RunLanes) (number : ℕ) (p : PortLanes) : Type 0 where
  pub lane : IsUntaken (key_of size p.seat) p.lane
  pub seat : IsPortSeat limits size.processes p.seat
  pub mailboxes_many : length p.mailboxes ≡ size.processes
  pub mailboxes : (d : ProcessLanes) → AreEndsOf size.processes (λ process. (slice_index_or run.processes.items process d).mailbox) (length run.ports.items) number p.mailboxes
  pub asks : p.asks ≡ new_end run.poller.asks (length run.ports.items + 1) number
  pub pool_many : length p.pool ≡ size.workers
  pub pool : (d : WorkerLanes) → AreEndsOf size.workers (λ worker. (slice_index_or run.workers.items worker d).jobs) (length run.ports.items + 1) number p.pool

-- of each port, in their order, the end of its lane that has this number
pub record HasLaneEnds (size : LaneSize) (run : RunLanes) (number : ℕ) (mine : List LaneEnd) : Type 0 where
  pub many : length mine ≡ length run.ports.items
  pub each : (d : PortLanes) → AreEndsOf (length run.ports.items) (λ port. (slice_index_or run.ports.items port d).lane) (ends_in size) number mine

-- The process of this number: nothing was taken from its mailbox, and it has the end of its own number in the lane of each port, and the seat of its own number of
-- each port's words
pub record HasProcess (size : LaneSize) (run : RunLanes) (number : ℕ) (p : ProcessLanes) : Type 0 where
  pub mailbox : IsUntaken tt p.mailbox
  pub lanes : HasLaneEnds size run number p.lanes.items
  pub seats_many : length p.seats.items ≡ length run.ports.items
  pub seats : (d : PortLanes) → AreSeatsWith (length run.ports.items) (λ port. (slice_index_or run.ports.items port d).seat) number p.seats.items

-- the worker of this number: its ends come after the poller's
pub record HasWorker (size : LaneSize) (run : RunLanes) (number : ℕ) (w : WorkerLanes) : Type 0 where
  pub jobs : IsUntaken tt w.jobs
  pub lanes : HasLaneEnds size run (size.processes + 1 + number) w.lanes.items

-- the poller: its ends come after those of the processes
pub record HasPoller (size : LaneSize) (run : RunLanes) : Type 0 where
  pub asks : IsUntaken tt run.poller.asks
  pub lanes : HasLaneEnds size run size.processes run.poller.lanes.items

-- the last end of the poller's lane, and of the lane of each worker
pub record HasFinish (size : LaneSize) (run : RunLanes) : Type 0 where
  pub poller : run.finish.poller ≡ new_end run.poller.asks (length run.ports.items + 1) (length run.ports.items)
  pub workers_many : length run.finish.workers.items ≡ size.workers
  pub workers : (d : WorkerLanes) → AreEndsOf size.workers (λ worker. (slice_index_or run.workers.items worker d).jobs) (length run.ports.items + 1) (length run.ports.items) run.finish.workers.items

-- The port can be opened in a run of this size: nothing was taken from its lane, whose key has its words and this size, its ends sent nothing, and its seat made
-- no mark and removed nothing
pub record CanOpen (size : LaneSize) (p : PortLanes) : Type 0 where
  pub taken : p.lane.taken ≡ []
  pub processes : p.lane.key.processes ≡ size.processes
  pub workers : p.lane.key.workers ≡ size.workers
  pub table : p.lane.key.table ≡ p.seat.table
  pub mail : All (λ (e : MailEnd). e.sent ≡ []) p.mailboxes
  pub asks : p.asks.sent ≡ []
  pub jobs : All (λ (e : PoolEnd). e.sent ≡ []) p.pool
  pub marks : p.seat.known.marks ≡ []
  pub removed : p.seat.known.removed ≡ []

-- the process of this number can begin, whichever drivers of so many ports are soft-busy
abbrev pub CanBegin : ℕ → ℕ → ProcessLanes → Type 0
CanBegin ports number p = (soft : List Bool) → length soft ≡ ports → AreParts number p.mailbox p.lanes.items p.seats.items soft

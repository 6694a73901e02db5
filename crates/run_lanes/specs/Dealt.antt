-- What each has of what was made, by place.
use Rattle.std.specs.Prelude.{◌≡◌, ◌<◌, ℕ, List, length, slice_index_or}
use Rattle.task_queue.specs.Ends.{Sending, Taking}
use Rattle.async_jobs.specs.Pool.{PoolEnd}
use Rattle.async_jobs.specs.Turns.{Worker}
use Rattle.process_end.specs.port_lanes.Keys.{Key}
use Rattle.process_end.specs.port_lanes.Parcels.{ParcelView}
use Rattle.port_mail.specs.Ends.{MailEnd}
use Rattle.port_words.specs.busy.Known.{PortKnown, SendKnown}
use Rattle.process_end.specs.Mailbox.{Mailbox}
use Rattle.process_end.specs.Views.{LaneEnd}
use Rattle.ready_select.specs.declared.ask.PollAsk.{PollAsk}
use Rattle.run_lanes.specs.declared.parts.PortLanes.{PortLanes}
use Rattle.run_lanes.specs.declared.parts.ProcessLanes.{ProcessLanes}
use Rattle.run_lanes.specs.declared.parts.WorkerLanes.{WorkerLanes}

-- what a port's end of the poller's lane shows
abbrev pub AskEnd : Type 0
AskEnd = Sending PollAsk (Unit {0})

-- the port of this number has the n-th of each list
pub record IsPortAt (lanes : List (Taking ParcelView Key)) (mail : List (List MailEnd)) (seats : List PortKnown) (asks : List AskEnd) (pools : List (List PoolEnd)) (n : ℕ) (p : PortLanes) : Type 0 where
  pub lane : (d : Taking ParcelView Key) → p.lane ≡ slice_index_or lanes n d
  pub mailboxes : (d : List MailEnd) → p.mailboxes ≡ slice_index_or mail n d
  pub seat : (d : PortKnown) → p.seat ≡ slice_index_or seats n d
  pub asks_are : (d : AskEnd) → p.asks ≡ slice_index_or asks n d
  pub pool : (d : List PoolEnd) → p.pool ≡ slice_index_or pools n d

pub record ArePorts (lanes : List (Taking ParcelView Key)) (mail : List (List MailEnd)) (seats : List PortKnown) (asks : List AskEnd) (pools : List (List PoolEnd)) (all : List PortLanes) : Type 0 where
  pub many : length all ≡ length lanes
  pub each : (n : ℕ) (d : PortLanes) → n < length all → IsPortAt lanes mail seats asks pools n (slice_index_or all n d)

-- so has the process of this number
pub record IsProcessAt (mailboxes : List Mailbox) (lanes : List (List LaneEnd)) (seats : List (List SendKnown)) (n : ℕ) (p : ProcessLanes) : Type 0 where
  pub mailbox : (d : Mailbox) → p.mailbox ≡ slice_index_or mailboxes n d
  pub lanes_are : (d : List LaneEnd) → p.lanes.items ≡ slice_index_or lanes n d
  pub seats_are : (d : List SendKnown) → p.seats.items ≡ slice_index_or seats n d

pub record AreProcesses (mailboxes : List Mailbox) (lanes : List (List LaneEnd)) (seats : List (List SendKnown)) (all : List ProcessLanes) : Type 0 where
  pub many : length all ≡ length mailboxes
  pub each : (n : ℕ) (d : ProcessLanes) → n < length all → IsProcessAt mailboxes lanes seats n (slice_index_or all n d)

-- and the worker
pub record IsWorkerAt (jobs : List Worker) (lanes : List (List LaneEnd)) (n : ℕ) (w : WorkerLanes) : Type 0 where
  pub jobs_are : (d : Worker) → w.jobs ≡ slice_index_or jobs n d
  pub lanes_are : (d : List LaneEnd) → w.lanes.items ≡ slice_index_or lanes n d

pub record AreWorkers (jobs : List Worker) (lanes : List (List LaneEnd)) (all : List WorkerLanes) : Type 0 where
  pub many : length all ≡ length jobs
  pub each : (n : ℕ) (d : WorkerLanes) → n < length all → IsWorkerAt jobs lanes n (slice_index_or all n d)

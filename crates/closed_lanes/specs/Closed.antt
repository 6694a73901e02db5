-- The ports of a run that nobody stopped, closed, by what the run was set up with.
use Rattle.std.specs.Prelude.{◌≡◌, ◌<◌, ℕ, List, length, reverse, map, All, Contains, Option, Some, slice_index, slice_index_or}
use Rattle.driver_model.specs.Calls.{Kind, Own}
use Rattle.driver_model.specs.Programs.{TellsOfProgram, ToldProgram}
use Rattle.run_opening.specs.driver_hosts.port_driver.Faults.{failures_in, RisenBy}
use Rattle.port_mail.specs.Ends.{MailEnd}
use Rattle.port_model.specs.declared.row.Row.{Row}
use Rattle.port_model.specs.declared.signal.Sender.TheVariants.{Process, Poller}
use Rattle.port_history.specs.Lawful.{Lawful, IsFinished}
use Rattle.port_history.specs.Mail.{mails}
use Rattle.port_history.specs.State.{state}
use Rattle.port_lanes.specs.Parcels.{ParcelView}
use Rattle.port_model.specs.Tasks.{TaskView}
use Rattle.run_end.specs.process_receipts.Receipts.{accepted}
use Rattle.run_opening.specs.driver_hosts.recorded_port.Asks.{resumed_words}
use Rattle.run_opening.specs.driver_hosts.recorded_port.View.{stat_marks}
use Rattle.run_opening.specs.driver_hosts.port_body.Body.{BodyName}
use Rattle.run_opening.specs.driver_hosts.port_body.Ends.{HasListedInOrder, IsLeftByCalls}
use Rattle.run_opening.specs.driver_hosts.port_body.LanePort.{rows_from}
use Rattle.run_opening.specs.driver_hosts.declared.hosted.Hosted.{Hosted}
use Rattle.run_end.specs.Ran.{RanProcess, calls_made}
use Rattle.run_opening.specs.driver_hosts.served_port.View.{end_names}
use Rattle.closed_ports.specs.Ends.{LaneEnd}
use Rattle.closed_ports.specs.Senders.{IsOfAnEnd}
use Rattle.closed_ports.specs.told_jobs.Told.{WorkersTell}
use Rattle.run_opening.specs.Setting.{Setting}
use Rattle.run_opening.specs.Jobs.{HaveWorkedIn, HasToldPorts, HasToldWorkers}
use Rattle.closed_lanes.specs.declared.closing.ClosedPort.{ClosedPort}
use Rattle.closed_lanes.specs.declared.closing.LaneEnds.{LaneEnds}

-- the tasks that an end sent, in their order
abbrev pub tasks_sent : LaneEnd → List TaskView
tasks_sent end = map (λ (p : ParcelView). p.task) end.sent

-- the history of a port, newest row first
abbrev pub history_of : ClosedPort → List Row
history_of port = reverse port.journal.rows

-- what the jobs of a run give back of its lanes, those of the processes in the order of processes
pub record GiveBack (s : Setting) (processes : List RanProcess) (ends : LaneEnds) : Type 0 where
  pub processes_are : map (λ l. l.items) ends.processes.items ≡ map (λ (p : RanProcess). p.end.lanes.items) processes
  pub worked : HaveWorkedIn s ends.workers.items
  pub polled : HasToldPorts s ends.poller.items
  pub told : HasToldWorkers s ends.finish.items

-- The port that had this name is closed: its history keeps all laws and is finished, each row of a task is of a sender with an end of its lane, those of a worker tell the first of its jobs, each sender was listed in the order of its tasks, which all
-- have a row, and the ends of the mailboxes, with what they sent, the set-up, the joined seats and the marks of the words, and the events are those of that history and of the name. The words of its
-- resumes are among those that it found
pub record IsClosedPort (name : BodyName) (port : ClosedPort) : Type 0 where
  pub lawful : Lawful name.opening (history_of port)
  pub finished : IsFinished name.opening (history_of port)
  pub senders : All (IsOfAnEnd name.key) port.journal.rows
  pub workers : WorkersTell name.key.workers name.opening (history_of port)
  pub listed : HasListedInOrder (state name.opening (history_of port))
  pub mailboxes_are : end_names port.mailboxes ≡ name.mailboxes
  pub mail : (process : ℕ) (e : MailEnd) → process < length port.mailboxes → (slice_index_or port.mailboxes process e).sent ≡ mails name.opening process (history_of port)
  pub config_is : port.config ≡ name.opening.config
  pub table : port.seat.table ≡ name.table
  pub setup : port.seat.known.setup ≡ name.setup
  pub joined : port.seat.known.senders ≡ name.joined
  pub resumed : All (λ word. Contains port.seat.known.words word) (resumed_words (history_of port))
  pub marks : port.seat.known.marks ≡ stat_marks (state name.opening (history_of port)).marks
  pub read : port.events.0 ≡ name.opening.read
  pub write : port.events.1 ≡ name.opening.write

module _ {D : Type 0} where
  -- the driver of a port is back at its place, stands as the calls of the port's history leave it, and tells of the program that it served, if it did; its faults rose by the failures that the history tells
  pub record HasStopped (kind : D → Kind) (faults : D → ℕ) (own : D → Own) (program : D → Option ToldProgram) (name : BodyName) (port : ClosedPort) (host : Hosted D) : Type 0 where
    pub driver : D
    pub back : host.driver ≡ Some driver
    pub kind_is : kind driver ≡ name.opening.kind
    pub stands : IsLeftByCalls name.opening (history_of port) (own driver) (program driver)
    pub told : TellsOfProgram (own driver) (program driver)
    pub failed : RisenBy (failures_in port.journal.rows) name.faults (faults driver)

  -- So it is of each port. Of each process and port the tasks that have a row are those that were accepted, in the order sent, each once; and the poller's tasks that have a row are those that its end of the
  -- port's lane sent, in their order, each once
  pub record AreClosedIn (kind : D → Kind) (faults : D → ℕ) (own : D → Own) (program : D → Option ToldProgram) (s : Setting) (processes : List RanProcess) (poller : List LaneEnd) (names : List BodyName) (places : List ℕ)
      (ports : List ClosedPort) (hosts : List (Hosted D)) : Type 0 where
    pub many : length ports ≡ length s.ports
    pub closed : (port : ℕ) (n : BodyName) (p : ClosedPort) → port < length s.ports → IsClosedPort (slice_index_or names port n) (slice_index_or ports port p)
    pub stopped : (port : ℕ) (n : BodyName) (p : ClosedPort) (h : Hosted D) → port < length s.ports
        → HasStopped kind faults own program (slice_index_or names port n) (slice_index_or ports port p) (slice_index_or hosts (slice_index places port) h)
    pub signals : (port process : ℕ) (p : ClosedPort) (r : RanProcess) → port < length s.ports → process < length processes
        → rows_from (Process process) (history_of (slice_index_or ports port p))
        ≡ accepted port (calls_made (slice_index_or processes process r)).asks (calls_made (slice_index_or processes process r)).receipts
    pub polled : (port : ℕ) (p : ClosedPort) (d : LaneEnd) → port < length s.ports
        → rows_from Poller (history_of (slice_index_or ports port p)) ≡ tasks_sent (slice_index_or poller port d)

-- What the processes of a run sent to ports that are closed, and what these sent to them.
use Rattle.std.specs.Prelude.{◌≡◌, ◌<◌, ℕ, List, length, reverse, All, slice_index_or}
use Rattle.run_end.specs.port_mail.Ends.{MailEnd}
use Rattle.port_model.specs.declared.signal.Sender.TheVariants.{Process}
use Rattle.port_history.specs.Mail.{mails}
use Rattle.run_end.specs.process_receipts.Receipts.{accepted}
use Rattle.driver_hosts.specs.port_body.Body.{BodyView, name_of}
use Rattle.driver_hosts.specs.port_body.LanePort.{rows_from}
use Rattle.driver_hosts.specs.declared.ending.EndedPort.{EndedPort}
use Rattle.run_end.specs.Ran.{RanProcess, HasRunWhole, calls_made}
use Rattle.closed_ports.specs.Ends.{LaneEnd}
use Rattle.closed_ports.specs.Laws.{AreAllColumns}
use Rattle.closed_ports.specs.Closed.{AreClosed}

-- The processes of a run with these ports: each had an end of each port's lane, and what it gives back of them is the column of its number
pub record HaveSentTo (bodies : List BodyView) (columns : List (List LaneEnd)) (processes : List RanProcess) : Type 0 where
  pub ran : All HasRunWhole processes
  pub counted : (port : ℕ) (v : BodyView) → port < length bodies → (name_of (slice_index_or bodies port v)).key.processes ≡ length processes
  pub lanes : (process : ℕ) (r : RanProcess) → process < length processes → length (slice_index_or processes process r).old.lanes ≡ length bodies
  pub sent : (port process : ℕ) (r : RanProcess) (c : List LaneEnd) (d : LaneEnd) → port < length bodies → process < length processes
      → slice_index_or (slice_index_or columns process c) port d ≡ slice_index_or (slice_index_or processes process r).end.lanes.items port d

-- the tasks of each process that have a row at a port, handled or late, are exactly those that its receipts show accepted, in the order sent, each once
abbrev pub AcceptedSignalsHaveRows : Type 0
AcceptedSignalsHaveRows = (bodies : List BodyView) (columns : List (List LaneEnd)) (ports : List EndedPort) (processes : List RanProcess) → AreAllColumns bodies columns → AreClosed bodies columns ports
    → HaveSentTo bodies columns processes → (port process : ℕ) (p : EndedPort) (r : RanProcess) → port < length bodies → process < length processes
    → rows_from (Process process) (reverse (slice_index_or ports port p).journal.rows)
    ≡ accepted port (calls_made (slice_index_or processes process r)).asks (calls_made (slice_index_or processes process r)).receipts

-- the end of each process's mailbox that a port gives back has sent the mail of the port's history to that process, in its order
abbrev pub MailIsOfHistories : Type 0
MailIsOfHistories = (bodies : List BodyView) (columns : List (List LaneEnd)) (ports : List EndedPort) → AreClosed bodies columns ports
    → (port process : ℕ) (v : BodyView) (p : EndedPort) (e : MailEnd) → port < length bodies → process < length (slice_index_or ports port p).outlets.mailboxes
    → (slice_index_or (slice_index_or ports port p).outlets.mailboxes process e).sent
    ≡ mails (name_of (slice_index_or bodies port v)).opening process (reverse (slice_index_or ports port p).journal.rows)

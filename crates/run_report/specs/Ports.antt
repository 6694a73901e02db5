-- What a report counts in the rows of a port.
use Rattle.std.specs.Prelude.{◌<◌, ℕ, List, reverse, All, IsSome}
use Rattle.port_model.specs.declared.row.Row.{Row}
use Rattle.port_model.specs.declared.row.Row.TheVariants.{Handled, Late}
use Rattle.driver_model.specs.Calls.{Echo}
use Rattle.port_history.specs.Opening.{Opening}
use Rattle.port_history.specs.Counts.{handled_commands, handled_bytes, late_commands, end_reason}
use Rattle.port_links.specs.Table.{IsAmong}
use Rattle.journal_text.specs.declared.book.PortReport.{PortReport}
use Rattle.run_report.specs.declared.counts.PortCounts.{PortCounts}

-- the opening of a reported port in a run of so many processes. What is counted asks for no more of it than these and its owner, as a law of this crate says: its number
-- and its kind may be any
abbrev pub opening_of : ℕ → PortReport → Opening
opening_of processes port = record {
  number = 0;
  processes = processes;
  kind = Echo;
  config = port.config;
  owner = port.owner;
  read = port.events.0;
  write = port.events.1;
}

-- the rows of a reported port, newest first
abbrev pub history_of : PortReport → List Row
history_of port = reverse port.journal.rows

-- how many commands called the driver, how many came late, how many bytes the first have together, and the reason that linked processes were told
abbrev pub counts_of : ℕ → PortReport → PortCounts
counts_of processes port = record {
  commands = handled_commands (opening_of processes port) (history_of port);
  late = late_commands port.journal.rows;
  bytes = handled_bytes (opening_of processes port) (history_of port);
  end = end_reason (opening_of processes port) (history_of port);
}

-- the sender of a row's task, where it is a process, is one of so many
abbrev pub IsFrom : ℕ → Row → Type 0
IsFrom processes (Handled from seq task outside effects) = IsAmong processes from
IsFrom processes (Late from seq task) = IsAmong processes from
IsFrom processes row = Unit {0}

-- one of so many processes opened the port, and the processes that sent the tasks of its rows are among them
pub record IsOfProcesses (processes : ℕ) (port : PortReport) : Type 0 where
  pub opener : port.owner < processes
  pub senders : All (IsFrom processes) port.journal.rows

-- it is a port of so many processes, and one of its rows closes it
pub record HasEnded (processes : ℕ) (port : PortReport) : Type 0 where
  pub known : IsOfProcesses processes port
  pub closed : IsSome (end_reason (opening_of processes port) (history_of port))

-- The report of what the ports and the processes of a run left.
use Rattle.std.specs.Prelude.{ℕ, List, map}
use Rattle.std.specs.List.{zip}
use Rattle.journal_text.specs.declared.book.PortReport.{PortReport}
use Rattle.run_report.specs.declared.report.ProcessRecord.{ProcessRecord}
use Rattle.run_report.specs.declared.report.Report.{Report}
use Rattle.script_input.specs.declared.input.PortName.{PortName}
use Rattle.script_input.specs.declared.input.RunNames.{RunNames}
use Rattle.script_run.specs.declared.running.PortLeft.{PortLeft}
use Rattle.script_run.specs.declared.running.ProcessLeft.{ProcessLeft}
use Rattle.script_run.specs.declared.running.ScriptRan.{ScriptRan}

-- a port as it is declared, with what it left
abbrev pub port_report : PortName → PortLeft → PortReport
port_report name left = record {
  name = name.name;
  driver = name.driver;
  owner = name.owner;
  config = left.config;
  events = left.events;
  journal = left.journal;
}

-- a process by its name, with what it left
abbrev pub process_report : List ℕ → ProcessLeft → ProcessRecord
process_report name left = record { name = name; receipts = left.receipts; mails = left.mails.items }

-- the ports, in their order, each with what it left
abbrev pub port_reports : List PortName → List PortLeft → List PortReport
port_reports names lefts = map (λ p. port_report p.0 p.1) (zip names lefts)

-- the processes, in their order, each with what it left
abbrev pub process_reports : List (List ℕ) → List ProcessLeft → List ProcessRecord
process_reports names lefts = map (λ p. process_report p.0 p.1) (zip names lefts)

-- the report of what these ports and processes left
abbrev pub report_of : RunNames → ScriptRan → Report
report_of names ran = record {
  ports = port_reports names.ports.items ran.ports.items;
  processes = process_reports names.processes.items ran.processes.items;
}

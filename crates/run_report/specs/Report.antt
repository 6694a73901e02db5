-- The text of a report, and the summary of a load.
use Rattle.std.specs.Prelude.{ℕ, List, [], ◌∷◌, ◌++◌, length, map, codes, sum_by, unwrap_or}
use Rattle.std.specs.Fmt.{decimal}
use Rattle.std.specs.List.{flat_map, enumerate_from}
use Rattle.hex.specs.Hex.{encode_lower}
use Rattle.sha2.specs.Sha256.{sha256}
use Rattle.port_history.specs.Counts.{data_messages, saved_data}
use Rattle.journal_text.specs.declared.book.PortReport.{PortReport}
use Rattle.run_report.specs.declared.report.ProcessRecord.{ProcessRecord}
use Rattle.run_report.specs.declared.report.Report.{Report}
use Rattle.run_report.specs.declared.counts.PortCounts.{PortCounts}
use Rattle.run_report.specs.declared.summary.Totals.{Totals}
use Rattle.run_report.specs.Ports.{counts_of}
use Rattle.run_report.specs.Processes.{commands_of, dropped_receipts, suspended_receipts}

-- the first line: how many processes and ports there are
unfoldable pub head_line : Report → List ℕ
head_line report =
    codes "report processes=" ++ decimal (length report.processes) ++ codes " ports=" ++ decimal (length report.ports) ++ 10 ∷ []

-- the line of a port, with what its rows come to
unfoldable pub port_line : PortReport → PortCounts → List ℕ
port_line port counts =
    codes "port " ++ port.name ++ codes " driver=" ++ port.driver
    ++ codes " commands=" ++ decimal counts.commands
    ++ codes " late=" ++ decimal counts.late
    ++ codes " bytes=" ++ decimal counts.bytes
    ++ codes " end=" ++ unwrap_or counts.end [] ++ 10 ∷ []

-- the line of the process at this place
unfoldable pub process_line : List PortReport → ℕ → ProcessRecord → List ℕ
process_line ports place process =
    codes "process " ++ process.name
    ++ codes " commands=" ++ decimal (commands_of place ports)
    ++ codes " dropped=" ++ decimal (dropped_receipts process.receipts)
    ++ codes " suspended=" ++ decimal (suspended_receipts process.receipts)
    ++ codes " data=" ++ decimal (data_messages process.mails)
    ++ codes " sha256=" ++ encode_lower (sha256 (saved_data (length ports) process.mails)) ++ 10 ∷ []

-- the first line, then the line of each port, and then the line of each process
unfoldable pub text_of : Report → List ℕ
text_of report =
    head_line report
    ++ flat_map (λ port. port_line port (counts_of (length report.processes) port)) report.ports
    ++ flat_map (λ p. process_line report.ports p.0 p.1) (enumerate_from 0 report.processes)

-- the sums over the ports
abbrev pub totals_of : List PortCounts → Totals
totals_of counts = record {
  commands = sum_by (λ c. c.commands) counts;
  late = sum_by (λ c. c.late) counts;
  bytes = sum_by (λ c. c.bytes) counts;
}

-- the first line of a summary
unfoldable pub load_head : ℕ → Totals → List ℕ
load_head number totals =
    codes "load number=" ++ decimal number
    ++ codes " commands=" ++ decimal totals.commands
    ++ codes " late=" ++ decimal totals.late
    ++ codes " bytes=" ++ decimal totals.bytes ++ 10 ∷ []

-- the line of a port in a summary
unfoldable pub load_line : PortReport → PortCounts → List ℕ
load_line port counts =
    codes "port " ++ port.name ++ codes " commands=" ++ decimal counts.commands ++ codes " bytes=" ++ decimal counts.bytes ++ 10 ∷ []

-- the sums over the ports, and then the line of each port
unfoldable pub summary_of : ℕ → Report → List ℕ
summary_of number report =
    load_head number (totals_of (map (counts_of (length report.processes)) report.ports))
    ++ flat_map (λ port. load_line port (counts_of (length report.processes) port)) report.ports

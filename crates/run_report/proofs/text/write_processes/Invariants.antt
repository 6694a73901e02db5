use Rattle.std.proofs.Common.{◌≡◌, ℕ, ◌<◌, List, ◌++◌, length, take, get_or}
use Rattle.std.specs.List.{flat_map, enumerate_from}
use Rattle.std.specs.String.{string_bytes}
use Rattle.journal_text.specs.declared.book.PortReport.{PortReport}
use Rattle.run_report.specs.Processes.{commands_of}
use Rattle.run_report.specs.Report.{process_line}
use Rattle.run_report.proofs.text.write_processes.Given as goal

abbrev pub invariant-loop-place : goal.invariant-loop-place
invariant-loop-place l =
    (reports : List PortReport) → l.ports ≡ length reports → ((place : ℕ) → place < length l.processes → get_or l.commands place 0 ≡ commands_of place reports)
    → string_bytes l.text ≡ string_bytes l.fn.text ++ flat_map (λ p. process_line reports p.0 p.1) (enumerate_from 0 (take l.place l.processes))

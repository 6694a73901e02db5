use Rattle.std.proofs.Common.{◌≡◌, take}
use Rattle.run_report.specs.Lines.{rows_of}
use Rattle.run_report.proofs.lines.count_rows.Given as goal

abbrev pub invariant-loop-port : goal.invariant-loop-port
invariant-loop-port l = l.rows ≡ rows_of (take l.port-index l.ports)

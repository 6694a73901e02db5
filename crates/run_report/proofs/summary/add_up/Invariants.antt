use Rattle.std.proofs.Common.{◌≡◌, take}
use Rattle.run_report.specs.Report.{totals_of}
use Rattle.run_report.proofs.summary.add_up.Given as goal

abbrev pub invariant-loop-port : goal.invariant-loop-port
invariant-loop-port l = l.totals ≡ totals_of (take l.port-index l.counts)

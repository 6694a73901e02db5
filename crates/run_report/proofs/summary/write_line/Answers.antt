use Rattle.std.proofs.Common.{append_assoc}
use Rattle.run_report.specs.Report.{load_line}
use Rattle.run_report.proofs.summary.write_line.Goals as goal

pub returns : goal.returns
unfolding load_line
returns c = rw c.in_ok-writeln.ensures.bytes (simp append_assoc (rw c.as_str-name.ensures.value))

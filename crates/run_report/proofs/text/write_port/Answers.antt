use Rattle.std.proofs.Common.{append_assoc}
use Rattle.run_report.specs.Report.{port_line}
use Rattle.run_report.proofs.text.write_port.Goals as goal

pub returns : goal.returns
unfolding port_line
returns c =
    rw c.in_ok-writeln.ensures.bytes
    (simp append_assoc (rw (c.as_str-name.ensures.value, c.as_str-driver.ensures.value, c.as_str-end.ensures.value, c.in-Some.is)))

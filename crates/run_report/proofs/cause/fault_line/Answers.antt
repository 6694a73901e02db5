use Rattle.std.proofs.Common.{append_assoc}
use Rattle.run_report.specs.Cause.{fault_line_of}
use Rattle.run_report.proofs.cause.fault_line.Goals as goal

pub returns-in_ok-format-in-BadLine : goal.returns-in_ok-format-in-BadLine
unfolding fault_line_of
returns-in_ok-format-in-BadLine c = rw (c.in_ok-format-in-BadLine.ensures.ok, c.in-BadLine.is) (simp append_assoc)

pub returns-in_ok-format-in-UnknownName : goal.returns-in_ok-format-in-UnknownName
unfolding fault_line_of
returns-in_ok-format-in-UnknownName c = rw (c.in_ok-format-in-UnknownName.ensures.ok, c.in-UnknownName.is) (simp append_assoc)

pub returns-in_ok-format-in-Repeated : goal.returns-in_ok-format-in-Repeated
unfolding fault_line_of
returns-in_ok-format-in-Repeated c = rw (c.in_ok-format-in-Repeated.ensures.ok, c.in-Repeated.is) (simp append_assoc)

pub returns-in_ok-format-in-Limit : goal.returns-in_ok-format-in-Limit
unfolding fault_line_of
returns-in_ok-format-in-Limit c = rw (c.in_ok-format-in-Limit.ensures.ok, c.in-Limit.is) (simp append_assoc)

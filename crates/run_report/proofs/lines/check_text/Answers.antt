use Rattle.std.proofs.Common.{append_assoc}
use Rattle.run_report.specs.Lines.{check_text_of}
use Rattle.run_report.proofs.lines.check_text.Goals as goal

pub returns : goal.returns
unfolding check_text_of
returns c =
    rw (c.into_bytes.ensures.value, c.in_ok-text.ensures.ok)
    (simp append_assoc (simp (c.processes.ensures.value, c.ports.ensures.value, c.steps.ensures.value)))

use Rattle.std.proofs.Common.{append_assoc}
use Rattle.run_report.specs.Report.{load_head}
use Rattle.run_report.proofs.summary.head_text.Goals as goal

pub returns : goal.returns
unfolding load_head
returns c = rw c.in_ok-format.ensures.ok (simp append_assoc)

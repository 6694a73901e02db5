use Rattle.std.proofs.Common.{append_assoc}
use Rattle.run_report.specs.Lines.{replay_text_of}
use Rattle.run_report.proofs.lines.replay_text.Goals as goal

pub returns : goal.returns
unfolding replay_text_of
returns c = rw (c.into_bytes.ensures.value, c.in_ok-text.ensures.ok, c.in_ok-rows.ensures) (simp append_assoc)

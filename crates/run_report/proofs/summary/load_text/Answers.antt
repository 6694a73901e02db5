use Rattle.std.proofs.Common.{length, ◌∙◌}
use Rattle.run_report.specs.Report.{summary_of}
use Rattle.run_report.proofs.summary.load_text.Goals as goal

pub returns : goal.returns
unfolding summary_of
returns c =
    rw (
      c.into_bytes.ensures.value,
      c.in_ok-write_lines.ensures (length c.as_slice.result.now) (c.deref-2.ensures.value ∙ c.in_ok-counts.ensures.ports),
      c.in_ok-text.ensures,
      c.in_ok-add_up.ensures,
      c.deref.ensures.value,
      c.in_ok-counts.ensures.ports,
    ) (simp (c.as_slice.ensures.items, c.as_slice-ports.ensures.items))

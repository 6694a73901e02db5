use Rattle.std.proofs.Common.{append_assoc, length, get_or, ap, refl, ◌∙◌}
use Rattle.run_report.specs.Report.{head_line, text_of}
use Rattle.run_report.proofs.Counted.{all-ended}
use Rattle.run_report.proofs.text.report_text.Goals as goal

pub write_ports-requires-clause-ended : goal.write_ports-requires-clause-ended
write_ports-requires-clause-ended c =
    all-ended (length c.as_slice-processes.result.now) c.as_slice-ports.result.now c.deref.result.now
    (rw (c.as_slice-processes.ensures.items, c.as_slice-ports.ensures.items) c.requires) (c.deref.ensures.value ∙ c.in_ok-counts.ensures.ports)

pub returns : goal.returns
unfolding head_line text_of
returns c =
    rw (
      c.into_bytes.ensures.value,
      c.in_ok-write_processes.ensures c.as_slice-ports.result.now refl
          (λ place below. ap (λ xs. get_or xs place 0) c.deref-2.ensures.value ∙ c.in_ok-counts.ensures.commands place below),
      c.in_ok-write_ports.ensures (length c.as_slice-processes.result.now) (c.deref.ensures.value ∙ c.in_ok-counts.ensures.ports),
      c.in_ok-writeln.ensures.bytes,
    ) (simp append_assoc (simp (c.new-text.ensures.bytes, c.as_slice-ports.ensures.items, c.as_slice-processes.ensures.items)))

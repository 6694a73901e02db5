use Rattle.std.proofs.Common.{append_assoc}
use Rattle.run_report.specs.Report.{process_line}
use Rattle.run_report.proofs.text.write_process.Goals as goal

pub returns : goal.returns
unfolding process_line
returns c = λ reports place many puts.
    rw c.in_ok-writeln.ensures.bytes (simp append_assoc (
    rw (
      c.as_str-name.ensures.value,
      puts,
      c.dropped_receipts-dropped.ensures,
      c.suspended_receipts-suspended.ensures,
      c.in_ok-messages.ensures.messages,
      c.in_ok-sha256.ensures,
      c.as_slice-2.ensures,
      c.in_ok-messages.ensures.digest,
      many,
      c.as_slice-receipts.ensures,
    )
    (simp c.as_slice.ensures)))

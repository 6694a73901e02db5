use Rattle.std.proofs.Common.{◌≡◌, length}
use Rattle.journal_text.specs.ReadingBooks.{lines_of, rows_at}
use Rattle.journal_text.proofs.LineSteps.{with_rows_before}
use Rattle.journal_text.proofs.reader.rows.Given as goal

abbrev pub invariant-loop-line : goal.invariant-loop-line
invariant-loop-line l = with_rows_before l.rows.items (rows_at l.names (lines_of l.rest)) ≡ rows_at l.names (lines_of l.bytes)

abbrev pub decreases-loop-line : goal.decreases-loop-line
decreases-loop-line l = length l.rest

use Rattle.std.proofs.Common.{◌≡◌, ◌++◌, take}
use Rattle.std.specs.List.{flat_map}
use Rattle.journal_text.specs.Rows.{row_text}
use Rattle.journal_text.specs.Books.{ended}
use Rattle.journal_text.proofs.printing_rows.put_rows.Given as goal

abbrev pub invariant-loop-row : goal.invariant-loop-row
invariant-loop-row l = l.out.items ≡ l.fn.out.items ++ flat_map (λ row. ended (row_text row)) (take l.row-index l.rows)

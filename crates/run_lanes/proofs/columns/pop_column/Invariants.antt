use Rattle.std.proofs.Common.{map}
use Rattle.run_lanes.proofs.Rows.{TakesBelow}
use Rattle.run_lanes.proofs.columns.pop_column.Given as goal

abbrev pub invariant-rows : goal.invariant-rows
invariant-rows g l = TakesBelow l.last l.at (map (λ r. r.items) l.fn.rows.items) (map (λ r. r.items) l.rows.items) l.column.items

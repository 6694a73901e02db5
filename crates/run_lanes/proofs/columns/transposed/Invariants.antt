use Rattle.std.proofs.Common.{map}
use Rattle.run_lanes.proofs.Rows.{HasTaken}
use Rattle.run_lanes.proofs.columns.transposed.Given as goal

abbrev pub invariant-columns : goal.invariant-columns
invariant-columns g l = HasTaken l.width l.done (map (λ r. r.items) l.fn.rows.items) (map (λ r. r.items) l.rows.items) (map (λ c. c.items) l.columns.items)

use Rattle.std.proofs.Common.{map}
use Rattle.run_lanes.proofs.Ends.{rows_are, columns_are}
use Rattle.run_lanes.proofs.making.lanes.Goals as goal

pub transposed-requires : goal.transposed-requires
transposed-requires g c = rows_are c.lanes.takers.items c.args.ends (map (λ r. r.items) c.lanes.rows.items) c.lanes.invariant.2

pub returns-clause-ends : goal.returns-clause-ends
returns-clause-ends g c = columns_are c.lanes.takers.items c.args.ends (map (λ r. r.items) c.lanes.rows.items) (map (λ r. r.items) c.in_ok-columns.columns.items) c.lanes.invariant.2 c.in_ok-columns.ensures

use Rattle.std.proofs.Common.{◌≡◌, length, map}
use Rattle.std.specs.List.{All}
use Rattle.run_lanes.specs.Ends.{AreAllRows, IsUntaken}
use Rattle.run_lanes.proofs.making.lanes.Given as goal

abbrev pub invariant-lanes : goal.invariant-lanes
invariant-lanes g l = (length l.takers.items ≡ l.counter) × All (IsUntaken l.key) l.takers.items × AreAllRows l.takers.items l.ends (map (λ r. r.items) l.rows.items)

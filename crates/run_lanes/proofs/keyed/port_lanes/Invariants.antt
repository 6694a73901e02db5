use Rattle.std.proofs.Common.{map, take}
use Rattle.run_lanes.specs.Ends.{AreAllRows}
use Rattle.run_lanes.specs.Keyed.{ends_in, ArePortLanes}
use Rattle.run_lanes.proofs.keyed.port_lanes.Given as goal

abbrev pub invariant-ports : goal.invariant-ports
invariant-ports l = ArePortLanes l.size (take l.seat-index l.seats) l.takers.items × AreAllRows l.takers.items (ends_in l.size) (map (λ r. r.items) l.rows.items)

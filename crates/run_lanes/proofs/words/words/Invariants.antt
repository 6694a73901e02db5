use Rattle.std.proofs.Common.{map, take}
use Rattle.run_lanes.specs.Words.{AreTables}
use Rattle.run_lanes.proofs.words.words.Given as goal

abbrev pub invariant-ports : goal.invariant-ports
invariant-ports l = AreTables (take l.limits-index l.ports) l.senders l.seats.items (map (λ r. r.items) l.rows.items)

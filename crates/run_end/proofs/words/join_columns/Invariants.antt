use Rattle.std.proofs.Common.{◌≤◌, length, map}
use Rattle.run_lanes.proofs.Places.{IsRest}
use Rattle.run_end.proofs.Rows.{JoinsBelow}
use Rattle.run_end.proofs.words.join_columns.Given as goal

abbrev pub invariant-columns : goal.invariant-columns
invariant-columns l =
    JoinsBelow l.place l.fn.ports.items (map (λ c. c.items) l.fn.columns.items) l.ports.items
    × IsRest l.place l.fn.columns.items l.seats-iterator.rest.items l.seats-iterator.rest.len
    × (l.place ≤ length l.fn.columns.items)

use Rattle.std.proofs.Common.{◌≤◌, [], get_or, length, map}
use Rattle.run_lanes.specs.Ends.{taken_in, Emptied}
use Rattle.run_lanes.proofs.Changes.{ChangesBelow}
use Rattle.run_lanes.proofs.Places.{IsRest}
use Rattle.run_lanes.proofs.emptying.empty_each.Given as goal

abbrev pub invariant-columns : goal.invariant-columns
invariant-columns g l =
    ChangesBelow (λ lane old new. Emptied g.T.Fits.fits (taken_in old (get_or (map (λ c. c.items) l.fn.columns.items) lane [])) new) l.place l.fn.lanes.items l.lanes.items
    × IsRest l.place l.fn.columns.items l.ends-iterator.rest.items l.ends-iterator.rest.len
    × (l.place ≤ length l.fn.columns.items)

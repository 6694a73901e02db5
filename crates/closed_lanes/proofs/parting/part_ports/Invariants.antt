use Rattle.std.proofs.Common.{map}
use Rattle.run_lanes.proofs.Places.{ArePlaced, IsRest}
use Rattle.closed_lanes.proofs.Parts.{IsKeptAt, IsPoolAt}
use Rattle.closed_lanes.proofs.parting.part_ports.Given as goal

-- the ports so far were parted
abbrev pub invariant-loop-place : goal.invariant-loop-place
invariant-loop-place g l =
    IsRest l.place-index l.fn.ports.items l.left.rest.items l.left.rest.len
    × ArePlaced (IsKeptAt g.D.Driver.own l.hosts l.places l.fn.ports.items) l.place-index l.all.items
    × ArePlaced (IsPoolAt l.fn.ports.items) l.place-index (map (λ p. p.items) l.pools.items)

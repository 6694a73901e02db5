use Rattle.std.proofs.Common.{map}
use Rattle.run_lanes.specs.Dealt.{IsPortAt}
use Rattle.run_lanes.proofs.Places.{IsRest, ArePlaced}
use Rattle.run_lanes.proofs.dealing.deal_ports.Given as goal

abbrev pub invariant-ports : goal.invariant-ports
invariant-ports l =
    IsRest l.counter l.fn.lanes.items l.lanes.rest.items l.lanes.rest.len
    × IsRest l.counter l.fn.mail.items l.mail.rest.items l.mail.rest.len
    × IsRest l.counter l.fn.seats.items l.seats.rest.items l.seats.rest.len
    × IsRest l.counter l.fn.asks.items l.asks.rest.items l.asks.rest.len
    × IsRest l.counter l.fn.pools.items l.pools.rest.items l.pools.rest.len
    × ArePlaced (IsPortAt l.fn.lanes.items (map (λ v. v.items) l.fn.mail.items) l.fn.seats.items l.fn.asks.items (map (λ v. v.items) l.fn.pools.items)) l.counter l.all.items

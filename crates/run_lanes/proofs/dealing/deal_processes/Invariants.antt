use Rattle.std.proofs.Common.{map}
use Rattle.run_lanes.specs.Dealt.{IsProcessAt}
use Rattle.run_lanes.proofs.Places.{IsRest, ArePlaced}
use Rattle.run_lanes.proofs.dealing.deal_processes.Given as goal

abbrev pub invariant-processes : goal.invariant-processes
invariant-processes l =
    IsRest l.counter l.fn.mailboxes.items l.mailboxes.rest.items l.mailboxes.rest.len
    × IsRest l.counter l.fn.lanes.items l.lanes.rest.items l.lanes.rest.len
    × IsRest l.counter l.fn.seats.items l.seats.rest.items l.seats.rest.len
    × ArePlaced (IsProcessAt l.fn.mailboxes.items (map (λ v. v.items) l.fn.lanes.items) (map (λ v. v.items) l.fn.seats.items)) l.counter l.all.items

use Rattle.std.proofs.Common.{map}
use Rattle.run_lanes.specs.Dealt.{IsWorkerAt}
use Rattle.run_lanes.proofs.Places.{IsRest, ArePlaced}
use Rattle.run_lanes.proofs.dealing.deal_workers.Given as goal

abbrev pub invariant-workers : goal.invariant-workers
invariant-workers l =
    IsRest l.counter l.fn.jobs.items l.jobs.rest.items l.jobs.rest.len
    × IsRest l.counter l.fn.lanes.items l.lanes.rest.items l.lanes.rest.len
    × ArePlaced (IsWorkerAt l.fn.jobs.items (map (λ v. v.items) l.fn.lanes.items)) l.counter l.all.items

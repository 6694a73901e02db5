use Rattle.std.proofs.Common.{◌≡◌, length}
use Rattle.std.specs.List.{All}
use Rattle.run_lanes.specs.Ends.{taken_in}
use Rattle.run_lanes.proofs.taking_in.take_all_in.Given as goal

abbrev pub invariant-ends : goal.invariant-ends
invariant-ends g l =
    (taken_in l.taker l.end-iterator.rest.items ≡ taken_in l.fn.taker l.fn.ends.items)
    × (l.end-iterator.rest.len ≡ length l.end-iterator.rest.items)
    × All (λ e. e.lane ≡ l.fn.taker.lane) l.end-iterator.rest.items
    × (l.taker.lane ≡ l.fn.taker.lane)

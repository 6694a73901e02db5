use Rattle.std.proofs.Common.{◌≡◌, ◌-◌, [], replicate}
use Rattle.run_queue.specs.Account.{hand, all_parts}
use Rattle.run_queue.specs.Seats.{entry_known}
use Rattle.run_queue.proofs.opening.split_ends.Given as goal

abbrev pub invariant-ends : goal.invariant-ends
invariant-ends l =
    (l.all.items ≡ replicate l.counter (entry_known l.fn.first.injector (hand 1 [] [])))
    × (l.first ≡ entry_known l.fn.first.injector (hand (all_parts - l.counter) [] []))

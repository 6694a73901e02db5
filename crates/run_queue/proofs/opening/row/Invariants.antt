use Rattle.std.proofs.Common.{◌≡◌, length, map, take}
use Rattle.run_queue.specs.Ends.{AreGiven, owner_ids}
use Rattle.run_queue.specs.Seats.{guest_end}
use Rattle.run_queue.proofs.opening.row.Given as goal

abbrev pub invariant-ends : goal.invariant-ends
invariant-ends l =
    AreGiven l.seat l.at l.owners.items
    × (owner_ids l.owners.items ≡ owner_ids l.fn.owners.items)
    × (length l.owners.items ≡ length l.fn.owners.items)
    × (l.ends.items ≡ take l.at (map (guest_end l.most) (owner_ids l.fn.owners.items)))

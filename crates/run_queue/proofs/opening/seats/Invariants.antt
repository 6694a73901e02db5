use Rattle.std.proofs.Common.{◌≡◌, ◌+◌, ◌-◌, [], map, length, drop, vec_len}
use Rattle.std.specs.List.{All}
use Rattle.run_queue.specs.Account.{hand}
use Rattle.run_queue.specs.Ends.{owner_ids}
use Rattle.run_queue.specs.Seats.{guest_end, entry_known, AreFresh}
use Rattle.run_queue.proofs.opening.seats.Given as goal

abbrev pub invariant-seats : goal.invariant-seats
invariant-seats l =
    (l.owner-iterator.rest.items ≡ drop (length l.all.items) l.fn.owners.items)
    × (l.owner-iterator.rest.len ≡ length l.owner-iterator.rest.items)
    × (vec_len l.rows + length l.all.items ≡ l.most)
    × All (λ row. row.items ≡ map (guest_end l.most) (owner_ids l.fn.owners.items)) l.rows.items
    × AreFresh (owner_ids l.fn.owners.items) l.fn.first.injector l.all.items
    × (l.first ≡ entry_known l.fn.first.injector (hand (l.fn.first.hand.parts - length l.all.items) [] []))

use Rattle.std.proofs.Common.{◌≡◌, map, vec_len}
use Rattle.std.specs.List.{All}
use Rattle.run_queue.specs.Ends.{AreGiven, owner_ids}
use Rattle.run_queue.specs.Seats.{guest_end}
use Rattle.run_queue.proofs.opening.rows.Given as goal

abbrev pub invariant-rows : goal.invariant-rows
invariant-rows l =
    AreGiven l.seat 0 l.owners.items
    × (owner_ids l.owners.items ≡ owner_ids l.fn.owners.items)
    × (vec_len l.rows ≡ l.seat)
    × All (λ row. row.items ≡ map (guest_end l.most) (owner_ids l.fn.owners.items)) l.rows.items

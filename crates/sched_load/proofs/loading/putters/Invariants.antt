use Rattle.std.proofs.Common.{◌≡◌, ◌++◌, length, map}
use Rattle.std.specs.List.{All}
use Rattle.atomic_table.specs.Seated.{TableId}
use Rattle.ticket_account.specs.Opening.{IsOther, IsReadyJob}
use Rattle.sched_load.specs.Putting.{CanPut}
use Rattle.sched_load.proofs.loading.putters.Given as goal

abbrev pub invariant-jobs : goal.invariant-jobs
invariant-jobs l =
    (map (λ p. p.seats) l.all.items ++ l.seats-iterator.rest.items ≡ l.fn.seats.items)
    × (l.seats-iterator.rest.len ≡ length l.seats-iterator.rest.items)
    × All (IsReadyJob l.size.ports) l.seats-iterator.rest.items
    × All (λ m. length m.items ≡ l.size.ports) l.lists.items
    × ((word : TableId) × All (IsOther word) l.places.items)
    × All CanPut l.all.items

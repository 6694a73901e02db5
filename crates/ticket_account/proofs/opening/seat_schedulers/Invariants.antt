use Rattle.std.proofs.Common.{◌≡◌, ◌+◌, ◌≤◌, ◌++◌, List, length, map, vec_len, vec_capacity}
use Rattle.std.specs.List.{All}
use Rattle.atomic_table.specs.Seated.{TableId}
use Rattle.port_words.specs.home.Seats.{HomeKnown}
use Rattle.run_queue.specs.Seats.{RunKnown}
use Rattle.ticket_account.specs.Opening.{IsOther, AreSeated}
use Rattle.ticket_account.proofs.opening.seat_schedulers.Given as goal

abbrev pub invariant-runs : goal.invariant-runs
invariant-runs g l =
    (done : List RunKnown) × (done ++ l.run-iterator.rest.items ≡ l.fn.runs.items)
    × (l.run-iterator.rest.len ≡ length l.run-iterator.rest.items)
    × (length l.lists.items + length done ≡ length l.fn.lists.items)
    × (length l.places.items + length done ≡ length l.fn.places.items)
    × ((row : List (HomeKnown _)) (word : TableId) → All (λ r. r ≡ row) (map (λ v. v.items) l.fn.lists.items) → All (IsOther word) l.fn.places.items
    → AreSeated done row word l.all.items × All (λ r. r ≡ row) (map (λ v. v.items) l.lists.items) × All (IsOther word) l.places.items)
    × (vec_len l.all + l.run-iterator.rest.len ≤ vec_capacity l.all)

use Rattle.std.proofs.Common.{◌≡◌, ◌+◌, ◌≤◌, ◌++◌, List, length, map, vec_len, vec_capacity}
use Rattle.std.specs.List.{All}
use Rattle.port_words.specs.home.Seats.{HomeKnown}
use Rattle.run_queue.specs.Seats.{EntryKnown}
use Rattle.ticket_account.specs.Opening.{AreJobSeats}
use Rattle.ticket_account.proofs.opening.seat_jobs.Given as goal

abbrev pub invariant-entries : goal.invariant-entries
invariant-entries g l =
    (done : List EntryKnown) × (done ++ l.entry-iterator.rest.items ≡ l.fn.entries.items)
    × (l.entry-iterator.rest.len ≡ length l.entry-iterator.rest.items)
    × (length l.lists.items + length done ≡ length l.fn.lists.items)
    × ((row : List (HomeKnown _)) → All (λ r. r ≡ row) (map (λ v. v.items) l.fn.lists.items)
    → AreJobSeats done row l.all.items × All (λ r. r ≡ row) (map (λ v. v.items) l.lists.items))
    × (vec_len l.all + l.entry-iterator.rest.len ≤ vec_capacity l.all)

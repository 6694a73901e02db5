use Rattle.std.proofs.Common.{◌≡◌, ◌++◌, List, length}
use Rattle.std.specs.List.{All}
use Rattle.port_words.specs.busy.Known.{SendKnown, port_known}
use Rattle.run_end.specs.Words.{IsOfTable, with_senders}
use Rattle.run_end.proofs.words.join_seats.Given as goal

abbrev pub invariant-seats : goal.invariant-seats
invariant-seats l =
    ((done : List SendKnown)
    × (done ++ l.seat-iterator.rest.items ≡ l.fn.seats.items)
    × (l.port ≡ port_known l.fn.port.table (with_senders l.fn.port.known done)))
    × (l.seat-iterator.rest.len ≡ length l.seat-iterator.rest.items)
    × All (IsOfTable l.fn.port) l.seat-iterator.rest.items

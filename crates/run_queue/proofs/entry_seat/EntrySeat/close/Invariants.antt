use Rattle.std.proofs.Common.{◌≡◌, List}
use Rattle.port_words.specs.declared.home.homes.Ticket.{Ticket}
use Rattle.run_queue.specs.Seats.{took_entry}
use Rattle.run_queue.proofs.entry_seat.EntrySeat.close.Given as goal

abbrev pub invariant-tickets : goal.invariant-tickets
invariant-tickets g l = (taken : List Ticket) × (l.self ≡ took_entry taken l.fn.self)

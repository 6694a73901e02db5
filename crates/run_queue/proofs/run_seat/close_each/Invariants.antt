use Rattle.std.proofs.Common.{◌≡◌, ℕ, ◌+◌, List, vec_len}
use Rattle.std.specs.List.{All, sum_by}
use Rattle.port_words.specs.declared.home.homes.Ticket.{Ticket}
use Rattle.run_queue.specs.Seats.{HasAll, put_in_deques, taken_of_deques}
use Rattle.run_queue.proofs.run_seat.close_each.Given as goal

abbrev pub invariant-deques : goal.invariant-deques
invariant-deques l =
    All HasAll l.deques.items
    × ((left : List Ticket) × ((weight : Ticket → ℕ) → put_in_deques weight l.fn.deques.items + taken_of_deques weight l.deques.items ≡ put_in_deques weight l.deques.items + taken_of_deques weight l.fn.deques.items + sum_by weight left))

abbrev pub decreases-deques : goal.decreases-deques
decreases-deques l = vec_len l.deques

use Rattle.std.proofs.Common.{◌≡◌, ℕ, ◌+◌, List, ◌++◌, Some, subst}
use Rattle.std.specs.List.{sum_by}
use Rattle.std.proofs.lemmas.List.Elements.{All-pop}
use Rattle.port_words.specs.declared.home.homes.Ticket.{Ticket}
use Rattle.run_queue.specs.Seats.{DequeKnown, HasAll, put_in_deques, taken_of_deques}
use Rattle.run_queue.proofs.EndLemmas.{closes}
use Rattle.run_queue.proofs.run_seat.close_each.Goals as goal

pub deques-preserved : goal.deques-preserved
deques-preserved c =
    let whole = c.args.deques.items in
    let rest = c.pop.new.self.items in
    let left = c.deques.invariant.1.0 in
    let before = subst (λ (ds : List DequeKnown). (weight : Ticket → ℕ) → put_in_deques weight whole + taken_of_deques weight ds ≡ put_in_deques weight ds + taken_of_deques weight whole + sum_by weight left)
    c.in-Some.ensures.items c.deques.invariant.1.1 in (
      (All-pop HasAll c.deques.deques.items rest (Some c.in-Some.deque) c.in-Some.ensures.items c.deques.invariant.0).0,
      (left ++ c.close.ensures.0, closes whole rest c.in-Some.deque left c.close.ensures.0 before c.close.ensures.2),
    )

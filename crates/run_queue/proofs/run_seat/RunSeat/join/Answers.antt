use Rattle.std.proofs.Common.{◌+◌, ◌≤◌, List, length, sym, subst, arith}
use Rattle.std.specs.List.{All}
use Rattle.run_queue.specs.Seats.{RunKnown, run_known, DequeKnown, AreOfOneQueue, IsDequeEnd, OwnsItsDeque, joined_deques}
use Rattle.run_queue.proofs.SeatLemmas.{can_join, joined_ends, joined_owns, joined_length}
use Rattle.run_queue.proofs.run_seat.RunSeat.join.Goals as goal

pub join_each-requires : goal.join_each-requires
join_each-requires c =
    let one = subst (λ (s : RunKnown). AreOfOneQueue s c.args.other) (sym c.self.view_is) c.requires in
    let both = subst (λ (s : RunKnown). AreOfOneQueue (run_known c.self.inside.number c.self.inside.seats c.self.inside.deques.items c.self.inside.entry) s) (sym c.other.view_is) one in
    can_join c.self.inside.seats c.other.inside.seats c.self.inside.deques.items c.other.inside.deques.items both.deques both.apart c.self.invariant.1 c.other.invariant.1

pub overflow_add-self : goal.overflow_add-self
overflow_add-self c =
    let one = subst (λ (s : RunKnown). AreOfOneQueue s c.args.other) (sym c.self.view_is) c.requires in
    let both = subst (λ (s : RunKnown). AreOfOneQueue (run_known c.self.inside.number c.self.inside.seats c.self.inside.deques.items c.self.inside.entry) s) (sym c.other.view_is) one in
    let few : c.self.inside.seats + c.other.inside.seats ≤ length c.self.inside.deques.items = both.apart in
    let len = c.self.inside.deques.ok.0 in
    let cap = c.self.inside.deques.ok.1 in
    let small = c.self.inside.deques.small in
    omega arith

pub invariant_of-self : goal.invariant_of-self
invariant_of-self c =
    let one = subst (λ (s : RunKnown). AreOfOneQueue s c.args.other) (sym c.self.view_is) c.requires in
    let both = subst (λ (s : RunKnown). AreOfOneQueue (run_known c.self.inside.number c.self.inside.seats c.self.inside.deques.items c.self.inside.entry) s) (sym c.other.view_is) one in
    let vs = c.self.inside.deques.items in
    let ws = c.other.inside.deques.items in
    let same = (can_join c.self.inside.seats c.other.inside.seats vs ws both.deques both.apart c.self.invariant.1 c.other.invariant.1).0 in
    let theirs = subst (λ m. All (IsDequeEnd m c.other.inside.seats) ws) same c.other.invariant.1 in
    let ends = joined_ends (length vs) c.self.inside.seats c.other.inside.seats vs ws same c.self.invariant.1 theirs in
    let size = sym (joined_length 0 vs ws) in
    subst (λ (us : List DequeKnown). OwnsItsDeque c.self.inside.number us × All (IsDequeEnd (length us) (c.self.inside.seats + c.other.inside.seats)) us) (sym c.join_each.ensures)
    (joined_owns c.self.inside.number vs ws c.self.invariant.0, subst (λ m. All (IsDequeEnd m (c.self.inside.seats + c.other.inside.seats)) (joined_deques vs ws)) size ends)

use Rattle.std.proofs.Common.{◌∷◌, map, subst, sym, Global}
use Rattle.std.specs.List.{All}
use Rattle.std.proofs.lemmas.List.Elements.{All-pop}
use Rattle.atomic_blocks.specs.Lent.{RowsId}
use Rattle.crossbeam_deque.specs.Handles.{worker_deque, worker_view}
use Rattle.run_queue.specs.declared.account.QueueHand.{QueueHand}
use Rattle.run_queue.specs.Ends.{IsGuestOf, guest_view}
use Rattle.run_queue.specs.Seats.{IsSameAccount}
use Rattle.run_queue.proofs.Accounts.{joins}
use Rattle.run_queue.proofs.EndLemmas.{absorbs, map_push}
use Rattle.run_queue.proofs.deque_end.absorb_all.Goals as goal

pub absorb-requires-clause-rule : goal.absorb-requires-clause-rule
absorb-requires-clause-rule c = joins _ _ _ _

pub guests-preserved : goal.guests-preserved
guests-preserved c =
    let rest = c.pop.new.self.items in
    let guest = guest_view c.in-Some.guest in
    let whole = worker_view c.args.owner ∷ map guest_view c.args.guests.items in
    let others = (All-pop (IsGuestOf (worker_deque c.guests.owner)) c.guests.guests.items rest c.pop.result c.pop.ensures.items c.guests.invariant.0).0 in
    let one = subst (λ xs. IsSameAccount whole (worker_view c.guests.owner ∷ map guest_view xs)) c.in-Some.ensures.items c.guests.invariant.1 in
    let two = subst (λ xs. IsSameAccount whole (worker_view c.guests.owner ∷ xs)) (map_push guest_view rest c.in-Some.guest) one in
    let three = absorbs whole (worker_view c.guests.owner) guest (map guest_view rest) two in (
      subst (λ (d : RowsId × Global). All (IsGuestOf d) rest) (sym c.absorb.ensures.same.0.0) others,
      subst (λ (v : QueueHand). IsSameAccount whole (v ∷ map guest_view rest)) (sym c.absorb.ensures.rule) three,
    )

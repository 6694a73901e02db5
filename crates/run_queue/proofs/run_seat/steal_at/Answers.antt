use Rattle.std.proofs.Common.{[], ◌∷◌, subst}
use Rattle.std.proofs.lemmas.Option.{IfSome_then}
use Rattle.run_queue.specs.Seats.{stole, GuestSawEmpty}
use Rattle.run_queue.proofs.SeatLemmas.{at_set, set_back, the_one, keeps, on_none}
use Rattle.run_queue.proofs.run_seat.steal_at.Goals as goal

pub returns-clause-kept : goal.returns-clause-kept
returns-clause-kept g c = keeps c.args.deques.now.items c.args.number _ _ c.requires.0 c.index_mut.ensures.value c.steal.ensures.same

pub returns-clause-some : goal.returns-clause-some
returns-clause-some g c = IfSome_then c.steal.result c.steal.ensures.some (λ t is. at_set (stole (t ∷ [])) c.args.deques.now.items c.args.number _ _ c.requires.0 c.index_mut.ensures.value is)

pub returns-clause-none : goal.returns-clause-none
returns-clause-none g c = on_none c.steal.result
    (λ same. (
      set_back c.args.deques.now.items c.args.number _ _ c.requires.0 c.index_mut.ensures.value same.0,
      λ k e. subst GuestSawEmpty (the_one c.args.deques.now.items c.args.number _ k c.requires.0 c.index_mut.ensures.value e) same.1,
    )) c.steal.ensures.none

use Rattle.std.proofs.Common.{[], ◌∷◌, subst}
use Rattle.std.proofs.lemmas.Option.{IfSome_then}
use Rattle.run_queue.specs.Seats.{took_own, OwnerSawEmpty}
use Rattle.run_queue.proofs.SeatLemmas.{at_set, set_back, the_one, keeps, on_none}
use Rattle.run_queue.proofs.run_seat.take_at.Goals as goal

pub returns-clause-kept : goal.returns-clause-kept
returns-clause-kept c = keeps c.args.deques.now.items c.args.number _ _ c.requires.0 c.index_mut.ensures.value c.take.ensures.same

pub returns-clause-some : goal.returns-clause-some
returns-clause-some c = IfSome_then c.take.result c.take.ensures.some (λ t is. at_set (took_own (t ∷ [])) c.args.deques.now.items c.args.number _ _ c.requires.0 c.index_mut.ensures.value is)

pub returns-clause-none : goal.returns-clause-none
returns-clause-none c = on_none c.take.result
    (λ same. (
      set_back c.args.deques.now.items c.args.number _ _ c.requires.0 c.index_mut.ensures.value same.0,
      λ k e. subst OwnerSawEmpty (the_one c.args.deques.now.items c.args.number _ k c.requires.0 c.index_mut.ensures.value e) same.1,
    )) c.take.ensures.none

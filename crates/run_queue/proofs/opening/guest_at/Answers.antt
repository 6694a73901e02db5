use Rattle.std.proofs.Common.{Some, ap, sym, ◌∙◌}
use Rattle.run_queue.proofs.SeatLemmas.{on_ok, if_ok}
use Rattle.run_queue.proofs.OpeningLemmas.{end_at, ids_set, given_more}
use Rattle.run_queue.proofs.opening.guest_at.Goals as goal

pub returns-clause-end : goal.returns-clause-end
returns-clause-end c = if_ok c.guest.result (λ e is. end_at c.args.most c.args.owners.now.items c.args.at _ c.requires.owners.1 c.index_mut.ensures.value ∙ ap Some (sym is)) c.guest.ensures.end

pub returns-clause-owners : goal.returns-clause-owners
returns-clause-owners c = on_ok c.guest.result (λ same. (
  given_more c.args.seat c.args.at c.args.owners.now.items _ _ c.requires.owners.1 c.index_mut.ensures.value c.requires.owners.0 same.1,
  ids_set c.args.owners.now.items c.args.at _ _ c.index_mut.ensures.value same.0,
)) c.guest.ensures.owner

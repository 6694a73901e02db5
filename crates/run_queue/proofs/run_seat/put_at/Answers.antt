use Rattle.std.proofs.Common.{[], ◌∷◌}
use Rattle.run_queue.specs.Seats.{put_own}
use Rattle.run_queue.proofs.SeatLemmas.{at_set, keeps, on_ok}
use Rattle.run_queue.proofs.run_seat.put_at.Goals as goal

pub returns-clause-kept : goal.returns-clause-kept
returns-clause-kept c = keeps c.args.deques.now.items c.args.number _ _ c.requires.0 c.index_mut.ensures.value c.put.ensures.same

pub returns-clause-ok : goal.returns-clause-ok
returns-clause-ok c = on_ok c.put.result (at_set (put_own (c.args.ticket ∷ [])) c.args.deques.now.items c.args.number _ _ c.requires.0 c.index_mut.ensures.value) c.put.ensures.ok

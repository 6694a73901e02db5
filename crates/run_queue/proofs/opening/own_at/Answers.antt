use Rattle.crossbeam_deque.specs.Handles.{worker_view}
use Rattle.run_queue.specs.Seats.{with_own}
use Rattle.run_queue.proofs.SeatLemmas.{at_set}
use Rattle.run_queue.proofs.opening.own_at.Goals as goal

pub returns : goal.returns
returns c = at_set (with_own (worker_view c.args.owner)) c.args.row.now.items c.args.number _ _ c.requires.place c.index_mut.ensures.value c.own.ensures

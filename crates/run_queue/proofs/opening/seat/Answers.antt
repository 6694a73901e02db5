use Rattle.std.proofs.Common.{ap, ◌∙◌}
use Rattle.crossbeam_deque.specs.Handles.{worker_view}
use Rattle.run_queue.specs.Seats.{with_own, changed_at}
use Rattle.run_queue.proofs.OpeningLemmas.{fresh_row}
use Rattle.run_queue.proofs.opening.seat.Goals as goal

pub new-requires : goal.new-requires
new-requires c = fresh_row c.args.most c.args.number (worker_view c.args.owner) c.requires.row.0 c.own_at.new.row.items
    (c.own_at.ensures ∙ ap (changed_at (with_own (worker_view c.args.owner)) c.args.number) c.requires.row.1) c.requires.row.2 c.requires.place.0

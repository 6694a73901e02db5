use Rattle.run_queue.specs.Seats.{joined_entry}
use Rattle.run_queue.proofs.SeatLemmas.{at_set}
use Rattle.run_queue.proofs.opening.give_rest.Goals as goal

pub returns : goal.returns
returns c = at_set (λ s. record s { entry = joined_entry s.entry c.args.first }) c.args.seats.now.items 0 _ _ c.requires.seats.0 c.index_mut.ensures.value c.join_entry.ensures

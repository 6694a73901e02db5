use Rattle.std.proofs.Common.{length, refl}
use Rattle.std.proofs.lemmas.Option.{slice_get_read}
use Rattle.run_queue.specs.Seats.{joined_deque}
use Rattle.run_queue.proofs.SeatLemmas.{at_set}
use Rattle.run_queue.proofs.run_seat.join_at.Goals as goal

pub join-requires-clause-deque : goal.join-requires-clause-deque
join-requires-clause-deque c = (c.requires.join _ (slice_get_read c.args.deques.now.items (length c.args.deques.now.items) c.args.number _ refl c.requires.exists c.index_mut.ensures.value)).0

pub join-requires-clause-room : goal.join-requires-clause-room
join-requires-clause-room c = (c.requires.join _ (slice_get_read c.args.deques.now.items (length c.args.deques.now.items) c.args.number _ refl c.requires.exists c.index_mut.ensures.value)).1

pub returns : goal.returns
returns c = at_set (λ k. joined_deque k c.args.other) c.args.deques.now.items c.args.number _ _ c.requires.exists c.index_mut.ensures.value c.join.ensures

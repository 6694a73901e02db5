use Rattle.std.proofs.Common.{length, refl}
use Rattle.std.proofs.lemmas.Option.{slice_get_read}
use Rattle.run_queue.proofs.SeatLemmas.{at_set}
use Rattle.port_sched.specs.Closing.{joined_home}
use Rattle.port_sched.proofs.closing.join_at.Goals as goal

pub join-requires-clause-home : goal.join-requires-clause-home
join-requires-clause-home g c = (c.requires.join _ (slice_get_read c.args.homes.now.items (length c.args.homes.now.items) c.args.port _ refl c.requires.exists c.index_mut.ensures.value)).0

pub join-requires-clause-idle : goal.join-requires-clause-idle
join-requires-clause-idle g c = (c.requires.join _ (slice_get_read c.args.homes.now.items (length c.args.homes.now.items) c.args.port _ refl c.requires.exists c.index_mut.ensures.value)).1

pub returns : goal.returns
returns g c = at_set (λ s. joined_home s c.args.other) c.args.homes.now.items c.args.port _ _ c.requires.exists c.index_mut.ensures.value c.join.ensures

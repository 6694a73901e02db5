use Rattle.run_queue.proofs.run_seat.RunSeat.take_other.Goals as goal

pub invariant_of-self : goal.invariant_of-self
invariant_of-self g c = (c.steal_from_others.ensures.kept.owns _ c.self.invariant.0, c.steal_from_others.ensures.kept.ends _ c.self.invariant.1)

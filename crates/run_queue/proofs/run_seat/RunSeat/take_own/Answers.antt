use Rattle.run_queue.proofs.run_seat.RunSeat.take_own.Goals as goal

pub invariant_of-self : goal.invariant_of-self
invariant_of-self c = (c.take_at.ensures.kept.owns _ c.self.invariant.0, c.take_at.ensures.kept.ends _ c.self.invariant.1)

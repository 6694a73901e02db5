use Rattle.run_queue.proofs.run_seat.RunSeat.push.Goals as goal

pub invariant_of-self : goal.invariant_of-self
invariant_of-self c = (c.put_at.ensures.kept.owns _ c.self.invariant.0, c.put_at.ensures.kept.ends _ c.self.invariant.1)

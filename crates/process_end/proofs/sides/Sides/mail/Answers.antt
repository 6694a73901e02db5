use Rattle.process_end.proofs.sides.Sides.mail.Goals as goal

pub invariant_of-self : goal.invariant_of-self
invariant_of-self g c = let i = c.self.invariant in record { seats = i.seats; soft = i.soft; each = i.each; undone = i.undone; told = i.told }

use Rattle.port_body.proofs.Always.{always_ended}
use Rattle.port_body.proofs.body.Body.take_in.Goals as goal

pub invariant_of-self : goal.invariant_of-self
invariant_of-self g c = always_ended c.self.inside.lane_port c.take_in.new.self c.self.inside.broken c.self.inside.finished _ _ c.take_in.ensures c.self.invariant

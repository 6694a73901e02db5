use Rattle.port_events.proofs.Single.{armed-both}
use Rattle.port_events.proofs.port_events.PortEvents.arm.Goals as goal

pub returns-clause-ok : goal.returns-clause-ok
returns-clause-ok g c = armed-both _ _ _ _ _ c.in_ok-arm_in.ensures.ok c.arm_in.ensures.same c.arm_in-2.ensures.ok

use Rattle.port_events.proofs.Handling.{started}
use Rattle.port_events.proofs.port_events.PortEvents.follow_start.Goals as goal

pub returns-clause-ok : goal.returns-clause-ok
returns-clause-ok g c =
    started c.args.effects.now c.requires c.args.self.now c.follow.new.self c.arm_selected.new.self _ _ c.in_ok-follow.ensures.ok c.follow.ensures.same c.in_ok-arm_selected.ensures.ok

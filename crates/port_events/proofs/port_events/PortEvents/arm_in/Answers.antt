use Rattle.std.proofs.Common.{sym, ◌∙◌, ap}
use Rattle.port_events.specs.Table.{EventTable}
use Rattle.port_events.specs.Parts.{one, none, arm_in, arm_in_asks}
use Rattle.port_events.proofs.Single.{armed-asked, armed-silent, as-seen}
use Rattle.port_events.proofs.port_events.PortEvents.arm_in.Goals as goal

pub returns-in_ok-ask-clause-ok : goal.returns-in_ok-ask-clause-ok
returns-in_ok-ask-clause-ok g c =
    as-seen (λ t. one (arm_in c.args.dir) (arm_in_asks c.args.dir t.port) none c.args.event) _ _ _ _ _ c.self.view_is
    (armed-asked _ _ _ c.args.dir c.arm.ensures.armed _ c.arm.ensures.answer c.if-arm.true
    _ (c.port.ensures ∙ ap (λ (t : EventTable). t.port) (sym c.self.view_is)) _ c.in_ok-ask.ensures.put)

pub returns-else-arm-clause-ok : goal.returns-else-arm-clause-ok
returns-else-arm-clause-ok g c =
    as-seen (λ t. one (arm_in c.args.dir) (arm_in_asks c.args.dir t.port) none c.args.event) _ _ _ _ _ c.self.view_is
    (armed-silent _ _ _ c.args.dir c.arm.ensures.armed _ c.arm.ensures.answer c.if-arm.false)

use Rattle.std.proofs.Common.{sym, subst, ◌∙◌}
use Rattle.port_events.specs.Table.{Agrees, Changes}
use Rattle.port_events.specs.Parts.{arm_in}
use Rattle.port_events.proofs.Selected.{arm-armed, made-arm-if}
use Rattle.port_events.proofs.used_events.UsedEvents.arm.Goals as goal

pub returns-then-is_armed-clause-armed : goal.returns-then-is_armed-clause-armed
returns-then-is_armed-clause-armed c =
    subst (λ s. Changes s s c.args.event (arm_in c.args.dir)) c.self.view_is (arm-armed _ _ c.args.dir (sym c.is_armed.ensures ∙ c.if-is_armed.true))

pub returns-clause-armed : goal.returns-clause-armed
returns-clause-armed c = λ events a.
    made-arm-if _ _ _ c.self.invariant c.args.dir c.arm.result c.arm.ensures.made c.arm.ensures.same c.arm.ensures.answer (sym c.is_armed.ensures ∙ c.if-is_armed.false)
    events (subst (λ s. Agrees s events) (sym c.self.view_is) a)

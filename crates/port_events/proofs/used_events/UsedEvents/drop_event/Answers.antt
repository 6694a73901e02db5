use Rattle.std.proofs.Common.{sym, subst}
use Rattle.port_events.specs.Table.{Agrees}
use Rattle.port_events.proofs.Steps.{made-drop}
use Rattle.port_events.proofs.used_events.UsedEvents.drop_event.Goals as goal

pub returns : goal.returns
returns c = λ events a.
    made-drop _ _ _ _ _ c.self.invariant _ _ c.deliver.ensures.made c.deliver-2.ensures.made events (subst (λ s. Agrees s events) (sym c.self.view_is) a) _ c.dropped.ensures.made c.dropped.ensures.answer

use Rattle.std.proofs.Common.{sym, subst, ◌∙◌}
use Rattle.port_events.specs.Table.{EventTable, Agrees}
use Rattle.port_events.proofs.Selected.{held-are}
use Rattle.port_events.proofs.port_events.PortEvents.held.Goals as goal

pub returns : goal.returns
returns c = λ events a.
    c.held.ensures.value ∙ held-are _ events (subst (λ (t : EventTable). Agrees t.selector events) (sym c.self.view_is) a) c.held.ensures.rising

use Rattle.std.proofs.Common.{sym, subst, ◌∙◌}
use Rattle.port_events.specs.Table.{EventTable, Agrees}
use Rattle.port_events.proofs.Selected.{empty-is}
use Rattle.port_events.proofs.port_events.PortEvents.is_given_back.Goals as goal

pub returns : goal.returns
returns c = λ events a.
    c.is_empty.ensures.value ∙ empty-is _ events (subst (λ (t : EventTable). Agrees t.selector events) (sym c.self.view_is) a) c.is_empty.ensures.rising

use Rattle.std.proofs.Common.{false, sym, subst}
use Rattle.port_history.specs.Events.{told_of}
use Rattle.port_events.specs.Table.{EventTable, Agrees}
use Rattle.port_events.proofs.port_events.PortEvents.tell.Goals as goal

pub returns-in-Ready-clause-told : goal.returns-in-Ready-clause-told
returns-in-Ready-clause-told c = λ events a.
    subst (λ signal. Agrees c.disarm.new.self (told_of false signal events)) (sym c.in-Ready.is)
    (c.disarm.ensures events (subst (λ (t : EventTable). Agrees t.selector events) (sym c.self.view_is) a))

pub returns-in-Dropped-clause-told : goal.returns-in-Dropped-clause-told
returns-in-Dropped-clause-told c = λ events a.
    subst (λ signal. Agrees c.drop_event.new.self (told_of false signal events)) (sym c.in-Dropped.is)
    (c.drop_event.ensures events (subst (λ (t : EventTable). Agrees t.selector events) (sym c.self.view_is) a))

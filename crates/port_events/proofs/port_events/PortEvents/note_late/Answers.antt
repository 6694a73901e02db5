use Rattle.std.proofs.Common.{true, sym, subst}
use Rattle.port_history.specs.Events.{told_of}
use Rattle.port_events.specs.Table.{EventTable, Agrees}
use Rattle.port_events.proofs.port_events.PortEvents.note_late.Goals as goal

pub returns-in-Ready-clause-told : goal.returns-in-Ready-clause-told
returns-in-Ready-clause-told c = λ events a.
    subst (λ signal. Agrees c.disarm.new.self (told_of true signal events)) (sym c.in-Ready.is)
    (c.disarm.ensures events (subst (λ (t : EventTable). Agrees t.selector events) (sym c.self.view_is) a))

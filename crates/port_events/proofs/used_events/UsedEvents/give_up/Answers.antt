use Rattle.std.proofs.Common.{sym, subst}
use Rattle.port_events.specs.Table.{Agrees}
use Rattle.port_events.proofs.Steps.{made-give_up, unuse-answer}
use Rattle.port_events.proofs.used_events.UsedEvents.give_up.Goals as goal

pub returns-clause-given_up : goal.returns-clause-given_up
returns-clause-given_up c = λ events a.
    made-give_up _ _ _ c.self.invariant _ c.unuse.ensures.made c.unuse.ensures.answer events (subst (λ s. Agrees s events) (sym c.self.view_is) a)

pub returns-clause-answer : goal.returns-clause-answer
returns-clause-answer c = λ events a.
    unuse-answer _ c.unuse.new.self _ c.self.invariant _ c.unuse.ensures.answer events (subst (λ s. Agrees s events) (sym c.self.view_is) a)

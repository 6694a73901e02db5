use Rattle.std.proofs.Common.{◌≡◌, true, sym, ap, ◌∙◌, subst, arith}
use Rattle.port_driver.specs.Context.{SameEvents}
use Rattle.port_driver.specs.driver_model.Drivers.{held_events}
use Rattle.port_events.specs.port_history.Opening.{taken_of}
use Rattle.port_events.proofs.AllHeld.{none-held}
use Rattle.port_model.specs.declared.signal.Sender.TheVariants.{Poller}
use Rattle.port_state.specs.Served.{IsServed}
use Rattle.served_port.specs.View.{ServedView}
use Rattle.served_port.proofs.Rows.{stopped-drops}
use Rattle.served_port.proofs.Same.{if-ok}
use Rattle.served_port.proofs.served_port.ServedPort.serve.Goals as goal

pub returns-clause-serves : goal.returns-clause-serves
returns-clause-serves g c = rw (← c.self.view_is) (if-ok c.serve-2.result (λ made serves port s task e at settled.
    serves port s task e at.state settled
    (subst (λ x. SameEvents x (held_events port.kind port.config s.calls)) (sym (c.as_slice.ensures.value ∙ c.held-held.ensures s.events at.events))
    (at.held (sym at.state.stopped ∙ (sym c.is_stopped.ensures ∙ c.if-is_stopped.false))))) c.serve-2.ensures.serves)

pub returns-then-is_given_back-clause-serves : goal.returns-then-is_given_back-clause-serves
returns-then-is_given_back-clause-serves g c = rw (← c.self.view_is) (if-ok c.serve.result (λ made serves port s task e at settled.
    let none = none-held s.events (sym (c.is_given_back.ensures s.events at.events) ∙ c.if-is_given_back.true) in
    serves port s task e at.state settled
    (subst (λ x. SameEvents x (held_events port.kind port.config s.calls)) none
    (at.held (sym at.state.stopped ∙ (sym c.is_stopped.ensures ∙ c.if-is_stopped.false))))) c.serve.ensures.serves)

pub returns-then-is_stopped-clause-serves : goal.returns-then-is_stopped-clause-serves
returns-then-is_stopped-clause-serves g c = rw (← c.self.view_is) (λ port s task e at settled.
    let h = c.requires.handled in
    let stopped : h.s.stopped ≡ true = sym h.at.state.stopped ∙ (sym (ap (λ (x : ServedView). x.state.stopped) c.self.view_is) ∙ (sym c.is_stopped.ensures ∙ c.if-is_stopped.true)) in
    let d = stopped-drops c.args.self.now h.port h.s c.args.from c.args.signal.now h.at stopped h.handled in
    let made = c.serve_dropped.result in
    subst (λ x. IsServed port s (taken_of x c.args.seq task made.outside made.effects) c.args.signal.now made c.self.inside.state) (sym d.poller)
    (subst (λ x. IsServed port s (taken_of Poller c.args.seq task made.outside made.effects) x made c.self.inside.state) (sym c.in-Dropped.is)
    (c.serve_dropped.ensures.serves port s task (e ∙ c.in-Dropped.is) at.state settled)))

pub returns-clause-failed : goal.returns-clause-failed
returns-clause-failed g c = rw (← c.self.view_is) c.serve-2.ensures.failed

pub returns-then-is_given_back-clause-failed : goal.returns-then-is_given_back-clause-failed
returns-then-is_given_back-clause-failed g c = rw (← c.self.view_is) c.serve.ensures.failed

pub returns-then-is_stopped-clause-failed : goal.returns-then-is_stopped-clause-failed
returns-then-is_stopped-clause-failed g c = rw (← c.self.view_is, c.serve_dropped.ensures.outside) (omega arith)

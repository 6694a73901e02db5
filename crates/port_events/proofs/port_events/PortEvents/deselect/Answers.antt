use Rattle.std.proofs.Common.{[], sym, subst, ◌∙◌}
use Rattle.port_history.specs.Events.{read_no_more}
use Rattle.port_events.specs.Parts.{IsDone, each, one, none, closing}
use Rattle.port_events.proofs.AllHeld.{closed-all}
use Rattle.port_events.proofs.port_events.PortEvents.deselect.Goals as goal

pub returns-then-closed-clause-done : goal.returns-then-closed-clause-done
returns-then-closed-clause-done c = λ events a.
    subst (λ b. IsDone (closing b) events c.args.self.now c.deselect_each.new.self [] []) (sym c.if-closed.true)
    (closed-all events c.args.self.now c.deselect_each.new.self [] [] a
    (subst (λ ns. IsDone (each (one read_no_more none none) ns) events c.args.self.now c.deselect_each.new.self [] [])
    (c.as_slice.ensures.value ∙ c.held-held.ensures events a) (c.deselect_each.ensures.done events a)))

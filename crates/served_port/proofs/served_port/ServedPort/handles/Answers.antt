use Rattle.std.proofs.Common.{◌&&◌, sym, ap, ◌∙◌}
use Rattle.std.specs.Prelude.{not}
use Rattle.served_port.proofs.served_port.ServedPort.handles.Goals as goal

pub returns-then-is_submitted : goal.returns-then-is_submitted
returns-then-is_submitted g c = rw (← c.self.view_is, c.in-Worker-AsyncDone.is-0, c.in-Worker-AsyncDone.is-1) (λ port s at.
    let there = sym (c.is_submitted.ensures s.jobs s.done at.jobs) ∙ c.if-is_submitted.true in
    ap not (c.is_stopped.ensures ∙ at.state.stopped) ∙ sym (ap (λ x. x && not s.stopped) there))

pub returns-else-is_submitted : goal.returns-else-is_submitted
returns-else-is_submitted g c = rw (← c.self.view_is, c.in-Worker-AsyncDone.is-0, c.in-Worker-AsyncDone.is-1) (λ port s at.
    let none = sym (c.is_submitted.ensures s.jobs s.done at.jobs) ∙ c.if-is_submitted.false in
    c.if-is_submitted.false ∙ sym (ap (λ x. x && not s.stopped) none))

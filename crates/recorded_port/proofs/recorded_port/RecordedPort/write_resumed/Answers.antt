use Rattle.std.proofs.Common.{refl, is_some, sym, ap, ◌∙◌}
use Rattle.std.specs.Prelude.{not}
use Rattle.recorded_port.specs.View.{RecordedView}
use Rattle.recorded_port.proofs.Same.{same-written, put-names, puts-each, state-with, state-with-open}
use Rattle.recorded_port.proofs.recorded_port.RecordedPort.write_resumed.Goals as goal

pub returns-clause-same : goal.returns-clause-same
returns-clause-same g c = rw (← c.self.view_is) (same-written _ _ _ _ _ c.write.ensures.written refl
    (put-names c.post_resume-posted.result _ _ _ _ (c.post_resume-posted.ensures c.args.self.now.opening (state-with c.args.self.now.opening (not c.is_open.result))
    (ap (λ (v : RecordedView). v.opening.number) (sym c.self.view_is)) (state-with-open c.args.self.now.opening (not c.is_open.result)))))

pub returns-clause-mail : goal.returns-clause-mail
returns-clause-mail g c =
    let links = ap (λ (v : RecordedView). v.port.state.links) c.self.view_is in
    let reason = ap (λ (v : RecordedView). v.port.state.reason) c.self.view_is in
    rw (← (c.links.ensures ∙ links), ← ap (λ (v : RecordedView). v.ends) c.self.view_is, c.write.ensures.written)
    (puts-each c.post_resume-posted.result _ _ _ _ (λ s told. c.post_resume-posted.ensures c.args.self.now.opening s (ap (λ (v : RecordedView). v.opening.number) (sym c.self.view_is))
    (ap not (c.is_open.ensures ∙ (ap (λ x. not (is_some x)) reason ∙ sym told)))))

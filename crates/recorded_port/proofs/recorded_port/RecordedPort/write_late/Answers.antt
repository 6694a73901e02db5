use Rattle.std.proofs.Common.{refl, sym, ap, ◌∙◌}
use Rattle.port_lanes.specs.port_history.State.{state_at_start}
use Rattle.recorded_port.specs.View.{RecordedView}
use Rattle.recorded_port.proofs.Same.{same-written, put-names, puts-any}
use Rattle.recorded_port.proofs.recorded_port.RecordedPort.write_late.Goals as goal

pub returns-clause-same : goal.returns-clause-same
returns-clause-same g c = rw (← c.self.view_is) (same-written _ _ _ _ _ c.write.ensures.written refl
    (put-names c.post_late_row-posted.result _ _ _ _ (c.post_late_row-posted.ensures c.args.self.now.opening (state_at_start c.args.self.now.opening) c.args.task
    (ap (λ (v : RecordedView). v.opening.number) (sym c.self.view_is)) (sym c.signal.ensures))))

pub returns-clause-mail : goal.returns-clause-mail
returns-clause-mail g c =
    rw (← (c.links.ensures ∙ ap (λ (v : RecordedView). v.port.state.links) c.self.view_is), ← ap (λ (v : RecordedView). v.ends) c.self.view_is, c.write.ensures.written)
    (puts-any c.post_late_row-posted.result _ _ _ _ (λ s. c.post_late_row-posted.ensures c.args.self.now.opening s c.args.task
    (ap (λ (v : RecordedView). v.opening.number) (sym c.self.view_is)) (sym c.signal.ensures)))

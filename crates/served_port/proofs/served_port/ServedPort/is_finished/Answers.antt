use Rattle.std.proofs.Common.{◌≡◌, ◌&&◌, true, sym, ap, ◌∙◌}
use Rattle.std.specs.List.{list_all}
use Rattle.port_events.specs.port_history.Jobs.{Submitted, is_done}
use Rattle.port_events.specs.port_history.Laws.{is_given_back}
use Rattle.served_port.proofs.served_port.ServedPort.is_finished.Goals.{then-is_stopped, else-is_stopped}
use Rattle.served_port.proofs.served_port.ServedPort.is_finished.Goals as goal

pub returns-then-is_given_back : goal.returns-then-is_given_back
returns-then-is_given_back g c = rw (← c.self.view_is) (λ port s at. elim c.if-is_stopped.branch [
  | then-is_stopped w ↦
      let stopped : s.stopped ≡ true = sym at.state.stopped ∙ (sym c.is_stopped.ensures ∙ w.if-is_stopped.true) in
      let given : list_all is_given_back s.events ≡ true = sym (w.is_given_back.ensures s.events at.events) ∙ (sym w.value-is ∙ c.if-is_given_back.true) in
      c.are_done.ensures s.jobs s.done at.jobs
      ∙ sym (ap (λ x. x && list_all is_given_back s.events && list_all (λ (job : Submitted). is_done job.number s.done) s.jobs) stopped
      ∙ ap (λ x. x && list_all (λ (job : Submitted). is_done job.number s.done) s.jobs) given)
  | else-is_stopped w ↦ absurd (let a = sym c.if-is_given_back.true ∙ (w.value-is ∙ w.if-is_stopped.false) in cc)
])

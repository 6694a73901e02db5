use Rattle.std.proofs.Common.{sym, ◌∙◌}
use Rattle.port_history.specs.Jobs.{is_submitted}
use Rattle.history_state.proofs.Tests.{not-submitted, not-running, in-time}
use Rattle.history_state.proofs.state.HistoryState.is_told_in_time.Goals as goal

pub returns-then-not-submitted : goal.returns-then-not-submitted
returns-then-not-submitted c = λ port s is.
    not-submitted (is_submitted c.args.number s.jobs) s.stopped c.args.handled (sym (c.is_submitted-submitted.ensures s.jobs s.done is.keeps) ∙ c.if-not-submitted.true)

pub returns-then-stopped : goal.returns-then-stopped
returns-then-stopped c = λ port s is.
    not-running (is_submitted c.args.number s.jobs) s.stopped c.args.handled (sym (c.is_submitted-submitted.ensures s.jobs s.done is.keeps) ∙ c.if-not-submitted.false)
    (sym (c.is_stopped-stopped.ensures port s is) ∙ c.if-stopped.true)

pub returns : goal.returns
returns c = λ port s is.
    in-time (is_submitted c.args.number s.jobs) s.stopped c.args.handled (sym (c.is_submitted-submitted.ensures s.jobs s.done is.keeps) ∙ c.if-not-submitted.false)
    (sym (c.is_stopped-stopped.ensures port s is) ∙ c.if-stopped.false)

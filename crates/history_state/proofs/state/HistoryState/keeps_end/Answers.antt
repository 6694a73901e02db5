use Rattle.std.proofs.Common.{sym, ◌∙◌}
use Rattle.std.specs.List.{list_all}
use Rattle.port_history.specs.Jobs.{Submitted, is_done}
use Rattle.port_history.specs.Laws.{all_resumed, is_given_back}
use Rattle.history_state.proofs.Tests.{not-stopped, not-resumed, not-given-back, ended}
use Rattle.history_state.proofs.state.HistoryState.keeps_end.Goals as goal

pub returns-then-not-stopped : goal.returns-then-not-stopped
returns-then-not-stopped c = λ port s is.
    not-stopped s.stopped (all_resumed s.listed) (list_all is_given_back s.events) (list_all (λ (job : Submitted). is_done job.number s.done) s.jobs)
    (sym (c.is_stopped-stopped.ensures port s is) ∙ c.if-not-stopped.true)

pub returns-then-not-are_resumed : goal.returns-then-not-are_resumed
returns-then-not-are_resumed c = λ port s is.
    not-resumed s.stopped (all_resumed s.listed) (list_all is_given_back s.events) (list_all (λ (job : Submitted). is_done job.number s.done) s.jobs)
    (sym (c.is_stopped-stopped.ensures port s is) ∙ c.if-not-stopped.false) (sym (c.are_resumed.ensures s.listed s.entries is.lists) ∙ c.if-not-are_resumed.true)

pub returns-then-not-are_given_back : goal.returns-then-not-are_given_back
returns-then-not-are_given_back c = λ port s is.
    not-given-back s.stopped (all_resumed s.listed) (list_all is_given_back s.events) (list_all (λ (job : Submitted). is_done job.number s.done) s.jobs)
    (sym (c.is_stopped-stopped.ensures port s is) ∙ c.if-not-stopped.false) (sym (c.are_resumed.ensures s.listed s.entries is.lists) ∙ c.if-not-are_resumed.false)
    (sym (c.are_given_back.ensures s.events is.holds) ∙ c.if-not-are_given_back.true)

pub returns : goal.returns
returns c = λ port s is.
    c.are_done.ensures s.jobs s.done is.keeps
    ∙ ended s.stopped (all_resumed s.listed) (list_all is_given_back s.events) (list_all (λ (job : Submitted). is_done job.number s.done) s.jobs)
    (sym (c.is_stopped-stopped.ensures port s is) ∙ c.if-not-stopped.false) (sym (c.are_resumed.ensures s.listed s.entries is.lists) ∙ c.if-not-are_resumed.false)
    (sym (c.are_given_back.ensures s.events is.holds) ∙ c.if-not-are_given_back.false)

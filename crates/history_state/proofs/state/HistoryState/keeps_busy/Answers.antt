use Rattle.history_state.proofs.state.HistoryState.keeps_busy.Goals as goal

pub returns-in-Handled : goal.returns-in-Handled
returns-in-Handled c = λ port s is. rw c.in-Handled.is (c.may_handle.ensures port s is)

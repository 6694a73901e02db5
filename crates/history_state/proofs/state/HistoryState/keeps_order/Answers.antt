use Rattle.history_state.proofs.state.HistoryState.keeps_order.Goals as goal

pub returns-in-Handled : goal.returns-in-Handled
returns-in-Handled c = λ port s is. rw c.in-Handled.is (c.is_next_task.ensures port s is)

pub returns-in-Late : goal.returns-in-Late
returns-in-Late c = λ port s is. rw c.in-Late.is (c.is_next_task-in-Late.ensures port s is)

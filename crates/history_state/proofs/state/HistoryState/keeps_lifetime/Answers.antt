use Rattle.history_state.proofs.state.HistoryState.keeps_lifetime.Goals as goal

pub returns-in-Handled : goal.returns-in-Handled
returns-in-Handled c = λ port s is. rw c.in-Handled.is (c.is_handled_in_time.ensures port s c.in-Handled.seq c.in-Handled.task c.in-Handled.outside c.in-Handled.effects is)

pub returns-in-Late : goal.returns-in-Late
returns-in-Late c = λ port s is. rw c.in-Late.is (c.is_late_in_time.ensures port s c.in-Late.seq c.in-Late.task is)

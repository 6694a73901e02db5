use Rattle.history_state.proofs.state.HistoryState.keeps_jobs.Goals as goal

pub returns-in-Handled : goal.returns-in-Handled
returns-in-Handled c = rw c.in-Handled.is c.is_task_told_right.ensures

pub returns-in-Late : goal.returns-in-Late
returns-in-Late c = rw c.in-Late.is c.is_task_told_right-in-Late.ensures

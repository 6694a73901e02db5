use Rattle.history_state.proofs.state.HistoryState.is_told_right.Goals as goal

pub returns-in-AsyncDone : goal.returns-in-AsyncDone
returns-in-AsyncDone c = rw c.in-AsyncDone.is c.is_result_right.ensures

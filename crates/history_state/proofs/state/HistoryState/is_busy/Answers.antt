use Rattle.history_state.proofs.state.HistoryState.is_busy.Goals as goal

pub returns : goal.returns
returns c = λ port s is. c.is_busy.ensures s.marks s.due is.marked

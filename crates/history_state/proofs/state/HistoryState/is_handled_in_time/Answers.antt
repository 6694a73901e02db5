use Rattle.history_state.proofs.state.HistoryState.is_handled_in_time.Goals as goal

pub returns-in-Process : goal.returns-in-Process
returns-in-Process c = λ port s seq task outside effects is. rw c.in-Process.is (c.is_open.ensures port s is)

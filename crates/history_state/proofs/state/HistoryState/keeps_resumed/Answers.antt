use Rattle.history_state.proofs.state.HistoryState.keeps_resumed.Goals as goal

pub returns-in-Resumed : goal.returns-in-Resumed
returns-in-Resumed c = λ port s is. rw c.in-Resumed.is (c.may_resume.ensures port s is)

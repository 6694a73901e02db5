use Rattle.history_state.proofs.state.HistoryState.keeps_listed.Goals as goal

pub returns-in-Handled : goal.returns-in-Handled
returns-in-Handled c = λ port s is. rw c.in-Handled.is (c.is_listed_right.ensures port s is)

pub returns-in-Late : goal.returns-in-Late
returns-in-Late c = λ port s is. rw c.in-Late.is (c.is_listed_right-in-Late.ensures port s is)

pub returns-in-Listed : goal.returns-in-Listed
returns-in-Listed c = λ port s is. rw c.in-Listed.is (c.may_list.ensures port s is)

use Rattle.std.proofs.Common.{not, ap}
use Rattle.history_state.proofs.state.HistoryState.is_late_in_time.Goals as goal

pub returns-in-Process : goal.returns-in-Process
returns-in-Process c = λ port s seq task is. rw c.in-Process.is (ap not (c.is_open.ensures port s is))

use Rattle.std.proofs.Common.{not, ap, sym, ◌∙◌}
use Rattle.port_history.specs.Marks.{is_busy}
use Rattle.port_history.specs.Laws.{waits_where_busy}
use Rattle.history_state.proofs.Tests.{not-busy, busy}
use Rattle.history_state.proofs.state.HistoryState.may_handle.Goals as goal

pub returns-then-not-busy : goal.returns-then-not-busy
returns-then-not-busy c = λ port s is. not-busy (waits_where_busy c.args.task.now) (is_busy s.marks) (sym (c.is_busy-busy.ensures port s is) ∙ c.if-not-busy.true)

pub returns : goal.returns
returns c = λ port s is. ap not c.waits_where_busy-waits.ensures ∙ busy (waits_where_busy c.args.task.now) (is_busy s.marks) (sym (c.is_busy-busy.ensures port s is) ∙ c.if-not-busy.false)

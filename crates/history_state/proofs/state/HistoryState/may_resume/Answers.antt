use Rattle.std.proofs.Common.{not, ◌||◌, ap, sym, ◌∙◌}
use Rattle.port_history.specs.Suspension.{entry, is_first, is_queue_busy}
use Rattle.port_history.specs.Marks.{is_busy}
use Rattle.port_history.specs.State.{is_open}
use Rattle.history_state.proofs.Tests.{not-first, first-of-closed, first-of-busy, first-of-free}
use Rattle.history_state.proofs.state.HistoryState.may_resume.Goals as goal

pub returns-then-not-is_first : goal.returns-then-not-is_first
returns-then-not-is_first c = λ port s is.
    not-first (is_first (entry c.args.from c.args.seq) s.listed) (not (is_open s) || not (is_busy s.marks || is_queue_busy c.args.word))
    (sym (c.is_first.ensures s.listed s.entries is.lists) ∙ c.if-not-is_first.true)

pub returns-then-not-is_open : goal.returns-then-not-is_open
returns-then-not-is_open c = λ port s is.
    first-of-closed (is_first (entry c.args.from c.args.seq) s.listed) (is_open s) (not (is_busy s.marks || is_queue_busy c.args.word))
    (sym (c.is_first.ensures s.listed s.entries is.lists) ∙ c.if-not-is_first.false) (sym (c.is_open.ensures port s is) ∙ c.if-not-is_open.true)

pub returns-then-busy : goal.returns-then-busy
returns-then-busy c = λ port s is.
    first-of-busy (is_first (entry c.args.from c.args.seq) s.listed) (is_open s) (is_busy s.marks) (is_queue_busy c.args.word)
    (sym (c.is_first.ensures s.listed s.entries is.lists) ∙ c.if-not-is_first.false) (sym (c.is_open.ensures port s is) ∙ c.if-not-is_open.false)
    (sym (c.is_busy-busy.ensures port s is) ∙ c.if-busy.true)

pub returns : goal.returns
returns c = λ port s is.
    ap not c.is_queue_busy-queue_busy.ensures
    ∙ first-of-free (is_first (entry c.args.from c.args.seq) s.listed) (is_open s) (is_busy s.marks) (is_queue_busy c.args.word)
    (sym (c.is_first.ensures s.listed s.entries is.lists) ∙ c.if-not-is_first.false) (sym (c.is_open.ensures port s is) ∙ c.if-not-is_open.false)
    (sym (c.is_busy-busy.ensures port s is) ∙ c.if-busy.false)

use Rattle.std.proofs.Common.{not, ap, sym, ◌∙◌}
use Rattle.std.specs.Prelude.{nat_le}
use Rattle.port_history.specs.Suspension.{entry, has_entry, has_sender}
use Rattle.port_history.specs.Laws.{count_of}
use Rattle.history_state.proofs.Tests.{listed-before, has-row, may-list}
use Rattle.history_state.proofs.state.HistoryState.may_list.Goals as goal

pub returns-then-has : goal.returns-then-has
returns-then-has c = λ port s is.
    listed-before (has_entry (entry c.args.from c.args.seq) s.entries) (nat_le (count_of c.args.from s.senders) c.args.seq) (has_sender c.args.from s.listed)
    (sym (c.has.ensures s.listed s.entries is.lists) ∙ c.if-has.true)

pub returns-then-seq-count : goal.returns-then-seq-count
returns-then-seq-count c = λ port s is.
    has-row (not (has_entry (entry c.args.from c.args.seq) s.entries)) (not (has_sender c.args.from s.listed)) c.count-count.result (count_of c.args.from s.senders) c.args.seq
    (c.count-count.ensures s.senders is.counts_are) c.if-seq-count.true

pub returns : goal.returns
returns c = λ port s is.
    ap not (c.is_suspended.ensures s.listed s.entries is.lists)
    ∙ may-list (has_entry (entry c.args.from c.args.seq) s.entries) (has_sender c.args.from s.listed) c.count-count.result (count_of c.args.from s.senders) c.args.seq
    (sym (c.has.ensures s.listed s.entries is.lists) ∙ c.if-has.false) (c.count-count.ensures s.senders is.counts_are) c.if-seq-count.false

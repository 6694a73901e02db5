use Rattle.std.proofs.Common.{sym, ◌∙◌}
use Rattle.port_history.specs.Jobs.{is_done, each_of, is_next_of_key}
use Rattle.port_history.specs.Laws.{is_told_in_time, is_work}
use Rattle.history_state.proofs.Tests.{told-before, not-in-time, no-work, told-right}
use Rattle.history_state.proofs.state.HistoryState.is_result_right.Goals as goal

pub returns-then-is_done : goal.returns-then-is_done
returns-then-is_done c = λ port s is.
    told-before (is_done c.args.number s.done) (is_told_in_time s c.args.handled c.args.number) (each_of c.args.number (is_work c.args.output.now) s.jobs) (each_of c.args.number (is_next_of_key s.jobs s.done) s.jobs)
    (sym (c.is_done.ensures s.jobs s.done is.keeps) ∙ c.if-is_done.true)

pub returns-then-not-is_told_in_time : goal.returns-then-not-is_told_in_time
returns-then-not-is_told_in_time c = λ port s is.
    not-in-time (is_done c.args.number s.done) (is_told_in_time s c.args.handled c.args.number) (each_of c.args.number (is_work c.args.output.now) s.jobs) (each_of c.args.number (is_next_of_key s.jobs s.done) s.jobs)
    (sym (c.is_done.ensures s.jobs s.done is.keeps) ∙ c.if-is_done.false) (sym (c.is_told_in_time.ensures port s is) ∙ c.if-not-is_told_in_time.true)

pub returns-then-not-is_work : goal.returns-then-not-is_work
returns-then-not-is_work c = λ port s is.
    no-work (is_done c.args.number s.done) (is_told_in_time s c.args.handled c.args.number) (each_of c.args.number (is_work c.args.output.now) s.jobs) (each_of c.args.number (is_next_of_key s.jobs s.done) s.jobs)
    (sym (c.is_done.ensures s.jobs s.done is.keeps) ∙ c.if-is_done.false) (sym (c.is_told_in_time.ensures port s is) ∙ c.if-not-is_told_in_time.false)
    (sym (c.in_ok-is_work.ensures s.jobs s.done is.keeps) ∙ c.if-not-is_work.true)

pub returns : goal.returns
returns c = λ port s is.
    c.is_next_of_key.ensures s.jobs s.done is.keeps
    ∙ told-right (is_done c.args.number s.done) (is_told_in_time s c.args.handled c.args.number) (each_of c.args.number (is_work c.args.output.now) s.jobs) (each_of c.args.number (is_next_of_key s.jobs s.done) s.jobs)
    (sym (c.is_done.ensures s.jobs s.done is.keeps) ∙ c.if-is_done.false) (sym (c.is_told_in_time.ensures port s is) ∙ c.if-not-is_told_in_time.false)
    (sym (c.in_ok-is_work.ensures s.jobs s.done is.keeps) ∙ c.if-not-is_work.false)

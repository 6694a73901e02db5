use Rattle.std.proofs.Common.{sym, subst}
use Rattle.std.specs.Prelude.{if◌then◌else◌}
use Rattle.port_history.specs.Ties.{tied, untied}
use Rattle.history_tables.specs.Tied.{Tied}
use Rattle.history_state.proofs.rows.note_ties.Goals as goal

pub returns-then-not-closes : goal.returns-then-not-closes
returns-then-not-closes c = λ port before count is.
    let now = tied port before c.args.from c.args.signal.now in
    subst (λ b. Tied c.note_handled.new.self (if b then untied now else now)) (sym c.if-not-closes.true) (c.in_ok-note_handled.ensures port before count is)

pub returns : goal.returns
returns c = λ port before count is.
    let now = tied port before c.args.from c.args.signal.now in
    subst (λ b. Tied c.close.new.self (if b then untied now else now)) (sym c.if-not-closes.false) (c.close.ensures now (c.in_ok-note_handled.ensures port before count is))

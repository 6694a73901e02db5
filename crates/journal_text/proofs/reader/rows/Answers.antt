use Rattle.std.proofs.Common.{sym, ◌∙◌}
use Rattle.std.proofs.lemmas.Result.{err_from_is_err_and}
use Rattle.journal_text.specs.ReadingBooks.{lines_of, rows_at}
use Rattle.journal_text.proofs.LineSteps.{rows_end, rows_next, rows_fault, rows_past}
use Rattle.journal_text.proofs.reader.rows.Goals as goal

pub returns-in_default : goal.returns-in_default
returns-in_default c =
    rw c.bad.ensures (rows_past c.args.names c.loop-line.rows.items (lines_of c.loop-line.rest.now) (rows_at c.args.names (lines_of c.args.bytes.now)) (sym c.in_default.ensures.line) c.loop-line.invariant)

pub returns-then-spells : goal.returns-then-spells
returns-then-spells c =
    rows_end c.args.names c.loop-line.rows.items (lines_of c.loop-line.rest.now) (lines_of c.in-Some.behind.now) c.in-Some.line.now (rows_at c.args.names (lines_of c.args.bytes.now))
    (sym c.in-Some.ensures.line) (sym c.spells.ensures ∙ c.if-spells.true) c.loop-line.invariant

pub returns-in_err-row : goal.returns-in_err-row
returns-in_err-row c =
    let p = err_from_is_err_and c.from_residual.result c.from_residual.ensures.1 in
    rw (p.1, p.2) (rows_fault c.args.names c.loop-line.rows.items (lines_of c.loop-line.rest.now) (lines_of c.in-Some.behind.now) c.in-Some.line.now c.in_err-row.field-0.0 (rows_at c.args.names (lines_of c.args.bytes.now))
    (sym c.in-Some.ensures.line) (sym c.spells.ensures ∙ c.if-spells.false) c.in_err-row.ensures c.loop-line.invariant)

pub loop-line-preserved : goal.loop-line-preserved
loop-line-preserved c =
    rw c.in_ok-push.ensures.items (rows_next c.args.names c.loop-line.rows.items (lines_of c.loop-line.rest.now) (lines_of c.in-Some.behind.now) c.in-Some.line.now c.in_ok-row.row (rows_at c.args.names (lines_of c.args.bytes.now))
    (sym c.in-Some.ensures.line) (sym c.spells.ensures ∙ c.if-spells.false) c.in_ok-row.ensures c.loop-line.invariant)

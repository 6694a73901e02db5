use Rattle.std.proofs.Common.{sym, ◌∙◌}
use Rattle.std.proofs.lemmas.Result.{err_from_is_err_and}
use Rattle.journal_text.specs.declared.reader.TheConstants.{MAX_PORTS}
use Rattle.journal_text.specs.ReadingBooks.{lines_of, ports_at}
use Rattle.journal_text.proofs.LineSteps.{ports_end, ports_next, ports_fault, ports_past}
use Rattle.journal_text.proofs.reader.ports.Goals as goal

pub returns-then-is_over : goal.returns-then-is_over
returns-then-is_over c =
    ports_end c.args.names c.loop.ports.items MAX_PORTS c.loop.counter (lines_of c.loop.rest.now) (ports_at MAX_PORTS c.args.names (lines_of c.args.bytes.now)) (sym c.is_over.ensures ∙ c.if-is_over.true) c.loop.invariant

pub returns-in_err-port : goal.returns-in_err-port
returns-in_err-port c =
    let p = err_from_is_err_and c.from_residual.result c.from_residual.ensures.1 in
    rw (p.1, p.2) (ports_fault c.args.names c.loop.ports.items MAX_PORTS c.loop.counter (lines_of c.loop.rest.now) c.in_err-port.field-0.0 (ports_at MAX_PORTS c.args.names (lines_of c.args.bytes.now)) c.loop-test.true
    (sym c.is_over.ensures ∙ c.if-is_over.false) c.in_err-port.ensures c.loop.invariant)

pub loop-preserved : goal.loop-preserved
loop-preserved c =
    rw c.in_ok-push.ensures.items (ports_next c.args.names c.loop.ports.items MAX_PORTS c.loop.counter (lines_of c.loop.rest.now) (lines_of c.in_ok-port.behind.now) c.in_ok-port.port (ports_at MAX_PORTS c.args.names (lines_of c.args.bytes.now)) c.loop-test.true
    (sym c.is_over.ensures ∙ c.if-is_over.false) c.in_ok-port.ensures c.loop.invariant)

pub returns-then-not-is_over : goal.returns-then-not-is_over
returns-then-not-is_over c =
    rw c.bad.ensures (ports_past c.args.names c.loop.ports.items MAX_PORTS c.loop.counter (lines_of c.loop.rest.now) (ports_at MAX_PORTS c.args.names (lines_of c.args.bytes.now)) c.loop-test.false (sym c.is_over-2.ensures ∙ c.if-not-is_over.true) c.loop.invariant)

pub returns : goal.returns
returns c =
    ports_end c.args.names c.loop.ports.items MAX_PORTS c.loop.counter (lines_of c.loop.rest.now) (ports_at MAX_PORTS c.args.names (lines_of c.args.bytes.now)) (sym c.is_over-2.ensures ∙ c.if-not-is_over.false) c.loop.invariant

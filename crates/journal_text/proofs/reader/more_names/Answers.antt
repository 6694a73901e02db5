use Rattle.std.proofs.Common.{◌<◌, length, sym, ◌∙◌, arith}
use Rattle.std.proofs.lemmas.Bool.{eqb-true, eqb-false}
use Rattle.std.proofs.lemmas.List.{length_push, nil_from_length}
use Rattle.journal_text.specs.declared.reader.TheConstants.{MAX_NAMES}
use Rattle.journal_text.proofs.NameSteps.{names_end, names_next, names_stop, names_past}
use Rattle.journal_text.proofs.reader.more_names.Goals as goal

pub returns-then-is_empty-clause-reads : goal.returns-then-is_empty-clause-reads
returns-then-is_empty-clause-reads c =
    let none = nil_from_length c.loop.rest.now (eqb-true (length c.loop.rest.now) 0 (sym c.is_empty.ensures ∙ c.if-is_empty.true)) in
    names_end c.loop.names.items MAX_NAMES c.loop.counter c.args.bytes.now c.loop.rest.now none c.loop.invariant.so_far

pub returns-in_default-clause-reads : goal.returns-in_default-clause-reads
returns-in_default-clause-reads c =
    let not_empty = eqb-false (length c.loop.rest.now) 0 (sym c.is_empty.ensures ∙ c.if-is_empty.false) in
    let some : 0 < length c.loop.rest.now = omega (arith, not_empty) in
    names_stop c.loop.names.items MAX_NAMES c.loop.counter c.args.bytes.now c.loop.rest.now c.loop-test.true some (sym c.in_default.ensures) c.loop.invariant.so_far

pub loop-preserved : goal.loop-preserved
loop-preserved c =
    let not_empty = eqb-false (length c.loop.rest.now) 0 (sym c.is_empty.ensures ∙ c.if-is_empty.false) in
    let some : 0 < length c.loop.rest.now = omega (arith, not_empty) in
    record {
      so_far = rw c.in_ok-push.ensures.items (names_next c.loop.names.items MAX_NAMES c.loop.counter c.args.bytes.now c.loop.rest.now c.in-Some.behind.now c.in-Some.name c.loop-test.true some (sym c.in-Some.ensures) c.loop.invariant.so_far);
      len = rw c.in_ok-push.ensures.items (omega (arith, c.loop.invariant.len, length_push c.loop.names.items c.in-Some.name));
    }

pub returns-then-not-is_empty-clause-reads : goal.returns-then-not-is_empty-clause-reads
returns-then-not-is_empty-clause-reads c =
    let not_empty = eqb-false (length c.loop.rest.now) 0 (sym c.is_empty-2.ensures ∙ c.if-not-is_empty.true) in
    let some : 0 < length c.loop.rest.now = omega (arith, not_empty) in
    names_past c.loop.names.items MAX_NAMES c.loop.counter c.args.bytes.now c.loop.rest.now c.loop-test.false some c.loop.invariant.so_far

pub returns-clause-reads : goal.returns-clause-reads
returns-clause-reads c =
    let none = nil_from_length c.loop.rest.now (eqb-true (length c.loop.rest.now) 0 (sym c.is_empty-2.ensures ∙ c.if-not-is_empty.false)) in
    names_end c.loop.names.items MAX_NAMES c.loop.counter c.args.bytes.now c.loop.rest.now none c.loop.invariant.so_far

use Rattle.std.proofs.Common.{sym, arith}
use Rattle.std.proofs.lemmas.Result.{err_from_is_err_and}
use Rattle.std.proofs.lemmas.List.{length_push}
use Rattle.port_signal.specs.declared.items.TheConstants.{MAX_ITEMS}
use Rattle.journal_text.specs.Reading.{answer_at}
use Rattle.journal_text.proofs.Items.{missed_stops, goes_on, stops, no_space, last, past}
use Rattle.journal_text.proofs.rows.some_answers.Goals as goal

pub returns-in_err-item-clause-reads : goal.returns-in_err-item-clause-reads
returns-in_err-item-clause-reads c =
    let p = err_from_is_err_and c.from_residual.result c.from_residual.ensures.1 in
    rw (p.1, p.2) (missed_stops c.in_err-item.field-0.0 _ _ c.in_err-item.ensures
    (λ none. stops answer_at c.loop.items.items MAX_ITEMS c.loop.counter c.args.front.now c.loop.rest.now c.loop-test.true none c.loop.invariant.so_far))

pub returns-in_default-clause-reads : goal.returns-in_default-clause-reads
returns-in_default-clause-reads c =
    rw c.in_ok-push.ensures.items (last answer_at c.loop.items.items MAX_ITEMS c.loop.counter c.args.front.now c.loop.rest.now c.in_ok-item.behind.now c.in_ok-item.item c.loop-test.true
    c.in_ok-item.ensures (sym c.in_default.ensures) c.loop.invariant.so_far)

pub returns-in_default-space-clause-reads : goal.returns-in_default-space-clause-reads
returns-in_default-space-clause-reads c =
    no_space answer_at c.loop.items.items MAX_ITEMS c.loop.counter c.args.front.now c.loop.rest.now c.in_ok-item.behind.now c.in-Some.next.now c.in_ok-item.item c.loop-test.true
    c.in_ok-item.ensures (sym c.in-Some.ensures) (sym c.in_default-space.ensures) c.loop.invariant.so_far

pub loop-preserved : goal.loop-preserved
loop-preserved c = record {
  so_far = rw c.in_ok-push.ensures.items (goes_on answer_at c.loop.items.items MAX_ITEMS c.loop.counter c.args.front.now c.loop.rest.now c.in_ok-item.behind.now c.in-Some.next.now c.in-Some-space.inner.now c.in_ok-item.item c.loop-test.true
      c.in_ok-item.ensures (sym c.in-Some.ensures) (sym c.in-Some-space.ensures) c.loop.invariant.so_far);
  len = rw c.in_ok-push.ensures.items (omega (arith, c.loop.invariant.len, length_push c.loop.items.items c.in_ok-item.item));
}

pub returns-clause-reads : goal.returns-clause-reads
returns-clause-reads c =
    past answer_at c.loop.items.items MAX_ITEMS c.loop.counter c.args.front.now c.loop.rest.now c.loop-test.false c.loop.invariant.so_far

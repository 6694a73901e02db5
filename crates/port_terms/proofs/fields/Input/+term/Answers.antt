use Rattle.std.proofs.Common.{◌≡◌, ◌∷◌, ◌++◌, [], arith}
use Rattle.std.proofs.lemmas.Result.{err_from_is_err_and}
use Rattle.std.proofs.lemmas.List.{map_push, length_push}
use Rattle.port_terms.specs.View.{tree, trees}
use Rattle.port_terms.specs.Reading.{items_at, term_at}
use Rattle.port_terms.proofs.Items.{goes_on, stops, is_done}
use Rattle.port_terms.proofs.fields.Input.+term.Goals as goal

pub items-returns-in_err-item-clause-gives : goal.items-returns-in_err-item-clause-gives
items-returns-in_err-item-clause-gives t c =
    let item = term_at c.args.self.size c.args.levels in
    let p = err_from_is_err_and c.from_residual.result c.from_residual.ensures.1 in
    rw (p.1, p.2) (stops item c.in_err-item.field-0.0 (trees c.loop.items.items) c.args.n c.loop.counter c.loop.rest.now (items_at item c.args.n c.args.bytes.now) c.loop-test.true c.in_err-item.ensures c.loop.invariant.so_far)

pub items-loop-preserved : goal.items-loop-preserved
items-loop-preserved t c =
    let item = term_at c.args.self.size c.args.levels in
    let one = c.in_ok-item.item in
    let pushed : trees c.push.new.self.items ≡ trees c.loop.items.items ++ tree one ∷ [] = rw c.in_ok-push.ensures.items (map_push _ c.loop.items.items one) in
    record {
      so_far = rw pushed (goes_on item (trees c.loop.items.items) c.args.n c.loop.counter c.loop.rest.now (tree one) c.in_ok-item.after.now (items_at item c.args.n c.args.bytes.now) c.loop-test.true c.in_ok-item.ensures c.loop.invariant.so_far);
      len = rw c.in_ok-push.ensures.items (omega (arith, c.loop.invariant.len, length_push c.loop.items.items one));
    }

pub items-returns-clause-gives : goal.items-returns-clause-gives
items-returns-clause-gives t c =
    let item = term_at c.args.self.size c.args.levels in
    is_done item (trees c.loop.items.items) c.args.n c.loop.counter c.loop.rest.now (items_at item c.args.n c.args.bytes.now) c.loop-test.false c.loop.invariant.so_far

use Rattle.std.proofs.Common.{◌≡◌, ◌++◌, ◌∷◌, [], sym, ap, ◌∙◌, arith}
use Rattle.std.proofs.lemmas.Result.{err_from_is_err_and}
use Rattle.std.proofs.lemmas.List.{map_push, length_push}
use Rattle.port_terms.specs.declared.values.TheConstants.{MAX_ITEMS}
use Rattle.port_terms.specs.IoView.{io_tree, io_trees}
use Rattle.script_text.specs.Data.{io_item}
use Rattle.script_text.specs.Reading.{after, value_at}
use Rattle.script_text.proofs.Turns.{missed_stops, item_goes_on, item_stops, item_alone, item_last, item_past}
use Rattle.script_text.proofs.io_lists.+io_item.Goals as goal

pub some_io_items-returns-in_err-item-clause-reads : goal.some_io_items-returns-in_err-item-clause-reads
some_io_items-returns-in_err-item-clause-reads t c =
    let item = value_at io_item c.args.levels in
    let p = err_from_is_err_and c.from_residual.result c.from_residual.ensures.1 in
    rw (p.1, p.2) (missed_stops c.in_err-item.field-0.0 _ _ c.in_err-item.ensures
    (λ none. item_stops item 93 (io_trees c.loop.items.items) MAX_ITEMS c.loop.counter c.args.bytes.now c.loop.rest.now c.loop-test.true (ap item (sym c.skip_gap.ensures) ∙ none) c.loop.invariant.so_far))

pub some_io_items-returns-in-Some-clause-reads : goal.some_io_items-returns-in-Some-clause-reads
some_io_items-returns-in-Some-clause-reads t c =
    let item = value_at io_item c.args.levels in
    let one = c.in_ok-item.item in
    let pushed : io_trees c.push.new.self.items ≡ io_trees c.loop.items.items ++ io_tree one ∷ [] = rw c.in_ok-push.ensures.items (map_push _ c.loop.items.items one) in
    rw pushed (item_last item 93 (io_trees c.loop.items.items) MAX_ITEMS c.loop.counter c.args.bytes.now c.loop.rest.now c.in_ok-item.behind.now c.in-Some.behind.now (io_tree one) c.loop-test.true
    (ap item (sym c.skip_gap.ensures) ∙ c.in_ok-item.ensures) (ap (after 93) (sym c.skip_gap-next.ensures) ∙ sym c.in-Some.ensures) c.loop.invariant.so_far)

pub some_io_items-returns-in_default-after-clause-reads : goal.some_io_items-returns-in_default-after-clause-reads
some_io_items-returns-in_default-after-clause-reads t c =
    let item = value_at io_item c.args.levels in
    item_alone item 93 (io_trees c.loop.items.items) MAX_ITEMS c.loop.counter c.args.bytes.now c.loop.rest.now c.in_ok-item.behind.now (io_tree c.in_ok-item.item) c.loop-test.true
    (ap item (sym c.skip_gap.ensures) ∙ c.in_ok-item.ensures) (ap (after 93) (sym c.skip_gap-next.ensures) ∙ sym c.in_default.ensures) (ap (after 44) (sym c.skip_gap-next.ensures) ∙ sym c.in_default-after.ensures) c.loop.invariant.so_far

pub some_io_items-loop-preserved : goal.some_io_items-loop-preserved
some_io_items-loop-preserved t c =
    let item = value_at io_item c.args.levels in
    let one = c.in_ok-item.item in
    let pushed : io_trees c.push.new.self.items ≡ io_trees c.loop.items.items ++ io_tree one ∷ [] = rw c.in_ok-push.ensures.items (map_push _ c.loop.items.items one) in
    record {
      so_far = rw pushed (item_goes_on item 93 (io_trees c.loop.items.items) MAX_ITEMS c.loop.counter c.args.bytes.now c.loop.rest.now c.in_ok-item.behind.now c.in-Some-after.behind.now (io_tree one) c.loop-test.true
          (ap item (sym c.skip_gap.ensures) ∙ c.in_ok-item.ensures) (ap (after 93) (sym c.skip_gap-next.ensures) ∙ sym c.in_default.ensures) (ap (after 44) (sym c.skip_gap-next.ensures) ∙ sym c.in-Some-after.ensures) c.loop.invariant.so_far);
      len = rw c.in_ok-push.ensures.items (omega (arith, c.loop.invariant.len, length_push c.loop.items.items one));
    }

pub some_io_items-returns-clause-reads : goal.some_io_items-returns-clause-reads
some_io_items-returns-clause-reads t c =
    item_past (value_at io_item c.args.levels) 93 (io_trees c.loop.items.items) MAX_ITEMS c.loop.counter c.args.bytes.now c.loop.rest.now c.loop-test.false c.loop.invariant.so_far

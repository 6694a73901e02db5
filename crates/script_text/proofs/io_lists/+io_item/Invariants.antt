use Rattle.std.proofs.Common.{◌≡◌, ◌+◌, ◌-◌, ◌*◌, length}
use Rattle.port_terms.specs.declared.values.TheConstants.{MAX_ITEMS}
use Rattle.port_terms.specs.IoView.{io_trees}
use Rattle.script_text.specs.Data.{io_item}
use Rattle.script_text.specs.Reading.{some_at, value_at}
use Rattle.script_text.proofs.Turns.{with_front}
use Rattle.script_text.proofs.io_lists.+io_item.Given as goal

abbrev pub decreases-io_item : goal.decreases-io_item
decreases-io_item l = 4 * l.levels

abbrev pub decreases-some_io_items : goal.decreases-some_io_items
decreases-some_io_items l = 4 * l.levels + 1

abbrev pub decreases-io_items : goal.decreases-io_items
decreases-io_items l = 4 * l.levels + 2

abbrev pub decreases-io_list_of : goal.decreases-io_list_of
decreases-io_list_of l = 4 * l.levels + 3

abbrev pub invariant-some_io_items-loop : goal.invariant-some_io_items-loop
invariant-some_io_items-loop l = record {
  so_far : with_front (io_trees l.items.items) (some_at (value_at io_item l.levels) 93 (MAX_ITEMS - l.counter) l.rest) ≡ some_at (value_at io_item l.levels) 93 MAX_ITEMS l.bytes;
  len : length l.items.items ≡ l.counter;
}

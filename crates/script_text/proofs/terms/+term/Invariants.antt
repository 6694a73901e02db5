use Rattle.std.proofs.Common.{◌≡◌, ◌+◌, ◌-◌, ◌*◌, length}
use Rattle.port_terms.specs.declared.values.TheConstants.{MAX_ITEMS}
use Rattle.port_terms.specs.View.{trees}
use Rattle.script_text.specs.Data.{term}
use Rattle.script_text.specs.Reading.{some_at, value_at}
use Rattle.script_text.proofs.Turns.{with_front}
use Rattle.script_text.proofs.terms.+term.Given as goal

abbrev pub decreases-term : goal.decreases-term
decreases-term l = 8 * l.levels

abbrev pub decreases-some_items : goal.decreases-some_items
decreases-some_items l = 8 * l.levels + 1

abbrev pub decreases-items : goal.decreases-items
decreases-items l = 8 * l.levels + 2

abbrev pub decreases-list : goal.decreases-list
decreases-list l = 8 * l.levels + 3

abbrev pub decreases-tuple : goal.decreases-tuple
decreases-tuple l = 8 * l.levels + 3

abbrev pub invariant-some_items-loop : goal.invariant-some_items-loop
invariant-some_items-loop l = record {
  so_far : with_front (trees l.items.items) (some_at (value_at term l.levels) l.close (MAX_ITEMS - l.counter) l.rest) ≡ some_at (value_at term l.levels) l.close MAX_ITEMS l.bytes;
  len : length l.items.items ≡ l.counter;
}

use Rattle.std.proofs.Common.{◌≡◌, ◌+◌, ◌-◌, ◌*◌, length}
use Rattle.port_terms.specs.View.{trees}
use Rattle.port_terms.specs.Reading.{items_at, term_at}
use Rattle.port_terms.proofs.Items.{with_front}
use Rattle.port_terms.proofs.fields.Input.+term.Given as goal

abbrev pub decreases-term : goal.decreases-term
decreases-term l = 8 * l.levels

abbrev pub decreases-items : goal.decreases-items
decreases-items l = 8 * l.levels + 1

abbrev pub decreases-terms : goal.decreases-terms
decreases-terms l = 8 * l.levels + 2

abbrev pub decreases-tuple : goal.decreases-tuple
decreases-tuple l = 8 * l.levels + 3

abbrev pub decreases-list : goal.decreases-list
decreases-list l = 8 * l.levels + 3

abbrev pub decreases-small_tuple : goal.decreases-small_tuple
decreases-small_tuple l = 8 * l.levels + 4

abbrev pub decreases-large_tuple : goal.decreases-large_tuple
decreases-large_tuple l = 8 * l.levels + 4

abbrev pub decreases-body : goal.decreases-body
decreases-body l = 8 * l.levels + 5

abbrev pub invariant-items-loop : goal.invariant-items-loop
invariant-items-loop l = record {
  so_far : with_front (trees l.items.items) (items_at (term_at l.fn.self.size l.levels) (l.n - l.counter) l.rest) ≡ items_at (term_at l.fn.self.size l.levels) l.n l.bytes;
  len : length l.items.items ≡ l.counter;
}

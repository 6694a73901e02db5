use Rattle.std.proofs.Common.{◌+◌, ◌*◌}
use Rattle.term_vectors.proofs.showing.+show.Given as goal

abbrev pub decreases-put_term : goal.decreases-put_term
decreases-put_term l = 3 * l.levels + 2

abbrev pub decreases-put_list : goal.decreases-put_list
decreases-put_list l = 3 * l.levels + 1

abbrev pub decreases-put_items : goal.decreases-put_items
decreases-put_items l = 3 * l.levels

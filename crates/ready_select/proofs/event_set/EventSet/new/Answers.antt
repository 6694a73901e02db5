use Rattle.std.specs.List.Sorted.{IsStrictlySortedBy}
use Rattle.std.proofs.Common.{arith}
use Rattle.ready_select.proofs.event_set.EventSet.new.Goals as goal

pub invariant_of-result : goal.invariant_of-result
unfolding IsStrictlySortedBy
invariant_of-result c = rw c.new.ensures (tt, omega arith)

pub returns-clause-rising : goal.returns-clause-rising
returns-clause-rising c = (invariant_of-result c).0

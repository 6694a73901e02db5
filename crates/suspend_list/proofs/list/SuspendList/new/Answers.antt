use Rattle.suspend_list.proofs.Once.{kept_new}
use Rattle.suspend_list.proofs.list.SuspendList.new.Goals as goal

pub invariant_of-result : goal.invariant_of-result
invariant_of-result c = kept_new c.in_ok-with_capacity.field-0 c.args.places c.in_ok-with_capacity.ensures

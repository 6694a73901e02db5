use Rattle.suspend_list.proofs.Once.{kept_fewer}
use Rattle.suspend_list.proofs.list.SuspendList.drop_first.Goals as goal

pub invariant_of-self : goal.invariant_of-self
invariant_of-self c = kept_fewer c.self.inside.entries c.take_first.new.entries c.take_first.ensures.rest c.self.invariant

use Rattle.std.proofs.Common.{◌<◌, subst, sym}
use Rattle.run_queue.specs.declared.account.QueueHand.{QueueHand}
use Rattle.run_queue.proofs.Accounts.{takes}
use Rattle.run_queue.proofs.deque_end.steal_by.Goals as goal

pub steal_as-requires-clause-takes : goal.steal_as-requires-clause-takes
steal_as-requires-clause-takes g c = takes _ _ (subst (λ (v : QueueHand). 0 < v.parts) (sym c.tries.invariant.1) c.requires.1.1)

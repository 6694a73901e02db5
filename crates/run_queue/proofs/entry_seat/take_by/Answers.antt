use Rattle.std.proofs.Common.{◌<◌, subst, sym}
use Rattle.run_queue.specs.declared.account.QueueHand.{QueueHand}
use Rattle.run_queue.proofs.Accounts.{takes, finds}
use Rattle.run_queue.proofs.entry_seat.take_by.Goals as goal

pub steal_as-requires-clause-rule : goal.steal_as-requires-clause-rule
steal_as-requires-clause-rule g c = (takes _ _ (subst (λ (v : QueueHand). 0 < v.parts) (sym c.tries.invariant.1) c.requires.1), finds _ _)

use Rattle.run_queue.proofs.Accounts.{puts}
use Rattle.run_queue.proofs.deque_end.put_by.Goals as goal

pub push_as-requires-clause-pushes : goal.push_as-requires-clause-pushes
push_as-requires-clause-pushes c = puts _ _ _ c.requires

use Rattle.run_queue.proofs.Accounts.{puts}
use Rattle.run_queue.proofs.entry_seat.EntrySeat.put.Goals as goal

pub push_as-requires-clause-rule : goal.push_as-requires-clause-rule
push_as-requires-clause-rule g c = puts _ _ _ c.self.invariant.1

use Rattle.run_queue.proofs.Accounts.{joins}
use Rattle.run_queue.proofs.entry_seat.EntrySeat.join.Goals as goal

pub absorb-requires-clause-rule : goal.absorb-requires-clause-rule
absorb-requires-clause-rule c = joins _ _ _ _

use Rattle.run_queue.proofs.Accounts.{begins}
use Rattle.run_queue.proofs.entry_seat.EntrySeat.open.Goals as goal

pub new_as-requires : goal.new_as-requires
new_as-requires c = begins

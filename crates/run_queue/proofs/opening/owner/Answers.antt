use Rattle.run_queue.proofs.Accounts.{begins}
use Rattle.run_queue.proofs.opening.owner.Goals as goal

pub fifo_as-requires : goal.fifo_as-requires
fifo_as-requires c = begins

use Rattle.run_queue.proofs.Accounts.{takes}
use Rattle.run_queue.proofs.deque_end.take_by.Goals as goal

pub pop_as-requires-clause-fifo : goal.pop_as-requires-clause-fifo
pop_as-requires-clause-fifo c = λ _. takes _ _ c.requires.1

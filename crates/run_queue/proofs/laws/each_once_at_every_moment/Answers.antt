use Rattle.run_queue.proofs.Accounts.{learns}
use Rattle.run_queue.proofs.laws.each_once_at_every_moment.Goals as goal

pub returns-clause-left : goal.returns-clause-left
returns-clause-left c = learns

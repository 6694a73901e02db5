use Rattle.std.proofs.Common.{◌-◌, ◌<◌, arith}
use Rattle.crossbeam_deque.specs.Handles.{worker_view}
use Rattle.run_queue.proofs.Accounts.{splits}
use Rattle.run_queue.proofs.deque_end.DequeEnd.guest.Goals as goal

pub another-requires : goal.another-requires
another-requires c = splits _ _ (let h : 0 < (worker_view c.args.owner.now).parts - 1 = c.requires.owner.1 in omega arith)

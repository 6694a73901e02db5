use Rattle.history_tables.proofs.ListSteps.{lists-more}
use Rattle.history_tables.proofs.listed.ListedTasks.list.Goals as goal

pub returns : goal.returns
returns c = λ listed entries is free.
    lists-more c.args.from c.args.seq c.args.self.now _ c.of-task.result c.of.result listed entries c.of-task.ensures c.of.ensures
    c.in_ok-insert.ensures.updates.0 c.in_ok-insert-2.ensures.updates.0 c.in_ok-push_back.ensures.items is free

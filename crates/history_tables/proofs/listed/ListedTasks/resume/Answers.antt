use Rattle.std.proofs.Common.{refl}
use Rattle.history_tables.proofs.ListSteps.{lists-fewer}
use Rattle.history_tables.proofs.listed.ListedTasks.resume.Goals as goal

pub returns : goal.returns
returns c = λ listed entries is first.
    lists-fewer c.args.from c.args.seq c.args.self.now _ c.of.result listed entries c.of.ensures refl c.remove.ensures.updates.0 c.pop_front.ensures.rest is first

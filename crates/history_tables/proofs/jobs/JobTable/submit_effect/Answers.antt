use Rattle.history_tables.proofs.JobSteps.{submits-next}
use Rattle.history_tables.proofs.jobs.JobTable.submit_effect.Goals as goal

pub returns-in-Async : goal.returns-in-Async
returns-in-Async c = rw c.in-Async.is (
    submits-next c.submit_one.result c.args.self.now c.submit_one.new.self c.in-Async.number c.in-Async.key c.in-Async.code c.in-Async.input c.submit_one.ensures)

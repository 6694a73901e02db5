use Rattle.std.proofs.Common.{refl, arith}
use Rattle.history_tables.proofs.JobSteps.{tells-kept, tells-missing}
use Rattle.history_tables.proofs.jobs.JobTable.note_done.Goals as goal

pub returns-then-place-len : goal.returns-then-place-len
returns-then-place-len c = λ jobs done is next.
    tells-missing c.args.self.now _ jobs done c.args.number is (omega (arith, c.args.self.now.jobs.ok.0)) refl refl c.in_ok-insert.ensures.updates.0

pub returns : goal.returns
returns c = λ jobs done is next.
    tells-kept c.args.self.now _ jobs done c.args.number c.index.result.now is (omega (arith, c.args.self.now.jobs.ok.0)) c.index.ensures next refl
    c.in_ok-insert.ensures.updates.0 c.in_ok-insert-2.ensures.updates.0

use Rattle.std.proofs.Common.{sym, ap, ◌∙◌, arith}
use Rattle.std.specs.List.{list_all}
use Rattle.port_history.specs.Jobs.{Submitted, each_of, is_next_of_key}
use Rattle.history_tables.specs.declared.jobs.KeptJob.{KeptJob}
use Rattle.history_tables.specs.JobsKept.{no_later}
use Rattle.history_tables.proofs.JobSteps.{each-kept, each-missing}
use Rattle.history_tables.proofs.jobs.JobTable.is_next_of_key.Goals as goal

pub returns-then-place-len : goal.returns-then-place-len
returns-then-place-len c = λ jobs done is.
    sym (ap (each_of c.args.number (is_next_of_key jobs done)) is.submitted
    ∙ each-missing c.args.number c.args.self.now.jobs.items (is_next_of_key jobs done) (omega (arith, c.args.self.now.jobs.ok.0)))

pub returns : goal.returns
returns c = λ jobs done is.
    c.is_latest.ensures jobs done is
    ∙ (ap (λ (j : KeptJob). list_all (λ (other : Submitted). no_later j.key c.args.number done other) jobs) c.index.ensures
    ∙ sym (ap (each_of c.args.number (is_next_of_key jobs done)) is.submitted
    ∙ each-kept c.args.number c.args.self.now.jobs.items (is_next_of_key jobs done) c.index.result.now (omega (arith, c.args.self.now.jobs.ok.0))))

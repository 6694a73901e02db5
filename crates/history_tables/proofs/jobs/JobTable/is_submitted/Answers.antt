use Rattle.std.proofs.Common.{length, sym, ap, ◌∙◌, arith}
use Rattle.port_history.specs.Jobs.{is_submitted}
use Rattle.history_tables.proofs.JobSteps.{submitted-of, below-len}
use Rattle.history_tables.proofs.jobs.JobTable.is_submitted.Goals as goal

pub returns : goal.returns
returns c = λ jobs done is.
    below-len c.args.number c.len.result (length c.args.self.now.jobs.items) (omega (arith, c.args.self.now.jobs.ok.0))
    ∙ sym (ap (is_submitted c.args.number) is.submitted ∙ submitted-of c.args.number 0 c.args.self.now.jobs.items)

use Rattle.std.proofs.Common.{sym, ap, ◌∙◌}
use Rattle.history_tables.proofs.JobSteps.{latest-says, is_latest, at-most}
use Rattle.history_tables.proofs.jobs.JobTable.is_latest.Goals as goal

pub returns-in-Some : goal.returns-in-Some
returns-in-Some c = λ jobs done is.
    at-most c.in-Some.latest.now c.args.number
    ∙ (ap (λ l. is_latest l c.args.number) c.in-Some.ensures.value ∙ sym (latest-says c.args.self.now jobs done c.args.key c.args.number is))

pub returns-in-None : goal.returns-in-None
returns-in-None c = λ jobs done is.
    ap (λ l. is_latest l c.args.number) c.in-None.ensures.value ∙ sym (latest-says c.args.self.now jobs done c.args.key c.args.number is)

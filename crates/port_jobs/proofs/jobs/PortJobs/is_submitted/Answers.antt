use Rattle.std.proofs.Common.{ap, ◌∙◌}
use Rattle.std.specs.Prelude.{nat_lt}
use Rattle.port_jobs.proofs.Counts.{submitted-below}
use Rattle.port_jobs.proofs.jobs.PortJobs.is_submitted.Goals as goal

pub returns : goal.returns
returns c = λ jobs done is. ap (λ v. nat_lt c.args.number v.submitted) c.self.view_is ∙ submitted-below c.args.self.now jobs done is c.args.number

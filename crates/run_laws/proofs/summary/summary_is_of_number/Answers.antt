use Rattle.run_laws.proofs.summary.Whole.{summary-is}
use Rattle.run_laws.proofs.summary.summary_is_of_number.Goals as goal

pub returns : goal.returns
returns g c = summary-is g.D.Driver.kind g.D.Driver.stage g.D.Driver.faults g.D.Driver.own g.D.Driver.program

use Rattle.std.proofs.Common.{ap, ◌∙◌}
use Rattle.std.specs.Prelude.{slice_get}
use Rattle.port_suspension.proofs.Listing.{first-some, first-none}
use Rattle.port_suspension.proofs.suspension.Suspension.first.Goals as goal

pub returns-clause-some : goal.returns-clause-some
returns-clause-some c = first-some c.first.result c.args.self.now (c.first.ensures.first ∙ ap (λ v. slice_get v.entries 0) c.self.view_is)

pub returns-clause-none : goal.returns-clause-none
returns-clause-none c = first-none c.first.result c.args.self.now (c.first.ensures.first ∙ ap (λ v. slice_get v.entries 0) c.self.view_is)

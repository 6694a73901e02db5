use Rattle.std.proofs.Common.{ap, ◌∙◌}
use Rattle.std.specs.Prelude.{slice_get}
use Rattle.port_suspension.proofs.Listing.{empty-is}
use Rattle.port_suspension.proofs.suspension.Suspension.is_empty.Goals as goal

pub returns : goal.returns
returns c = empty-is c.first.result c.args.self.now c.is_none.result (c.first.ensures.first ∙ ap (λ v. slice_get v.entries 0) c.self.view_is) c.is_none.ensures

use Rattle.std.proofs.Common.{sym, subst}
use Rattle.port_events.specs.Table.{Agrees}
use Rattle.port_events.proofs.Steps.{made-disarm}
use Rattle.port_events.proofs.used_events.UsedEvents.disarm.Goals as goal

pub returns : goal.returns
returns c = λ events a. made-disarm _ _ _ c.self.invariant c.args.dir _ c.deliver.ensures.made events (subst (λ s. Agrees s events) (sym c.self.view_is) a)

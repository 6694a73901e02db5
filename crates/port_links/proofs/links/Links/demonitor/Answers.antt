use Rattle.port_history.specs.port_model.port_signal.declared.monitor.Monitor.{Monitor}
use Rattle.port_links.proofs.Flags.{without-kept}
use Rattle.port_links.proofs.links.Links.demonitor.Goals as goal

pub invariant_of-self : goal.invariant_of-self
invariant_of-self c =
    let m : Monitor = record { process = c.args.process; number = c.args.number } in
    without-kept _ _ _ _ _ m c.self.invariant c.remove.ensures.rest

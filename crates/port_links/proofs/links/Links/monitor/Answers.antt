use Rattle.std.proofs.Common.{◌<◌, length}
use Rattle.port_history.specs.port_model.port_signal.declared.monitor.Monitor.{Monitor}
use Rattle.port_links.proofs.Flags.{with-kept}
use Rattle.port_links.proofs.links.Links.monitor.Goals as goal

pub invariant_of-self-2 : goal.invariant_of-self-2
invariant_of-self-2 c =
    let m : Monitor = record { process = c.args.process; number = c.args.number } in
    let known : m.process < length c.self.inside.ended.items = rw (← c.self.view_is) at c.requires in
    with-kept _ _ _ _ _ m c.self.invariant known c.in_ok-add.ensures.ok

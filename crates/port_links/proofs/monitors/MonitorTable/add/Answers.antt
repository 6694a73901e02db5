use Rattle.std.proofs.Common.{◌≡◌, ◌∙◌, sym, ap, true}
use Rattle.std.specs.Map.{keys_of}
use Rattle.port_history.specs.port_model.port_signal.declared.monitor.Monitor.{Monitor}
use Rattle.port_history.specs.port_model.port_signal.Links.{has_monitor}
use Rattle.port_links.proofs.MonitorOrder.{has-entries, with-entries, with-there}
use Rattle.port_links.proofs.monitors.MonitorTable.add.Goals as goal

pub returns-then-contains_key-clause-ok : goal.returns-then-contains_key-clause-ok
returns-then-contains_key-clause-ok c =
    let m : Monitor = c.args.monitor in
    let has : has_monitor m (keys_of c.self.inside.index.entries) ≡ true =
    sym (has-entries m c.self.inside.index.entries) ∙ (sym c.contains_key.ensures ∙ c.if-contains_key.true) in
    rw (← c.self.view_is) (sym (with-there m (keys_of c.self.inside.index.entries) c.self.invariant.rising has))

pub returns-clause-ok : goal.returns-clause-ok
returns-clause-ok c =
    rw (← c.self.view_is) (ap keys_of c.in_ok-insert.ensures.entries ∙ with-entries c.args.monitor _ c.self.inside.index.entries)

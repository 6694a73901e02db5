use Rattle.std.proofs.Common.{◌∙◌, sym, ap}
use Rattle.std.specs.Option.{is_some}
use Rattle.std.specs.Map.{keys_of}
use Rattle.std.specs.BTreeMap.{get as key_at}
use Rattle.slab.specs.Slab.{get as monitor_at}
use Rattle.port_links.specs.Indexed.{monitor_cmp}
use Rattle.port_links.proofs.MonitorOrder.{has-entries, without-entries}
use Rattle.port_links.proofs.Inverse.{invert-remove}
use Rattle.port_links.proofs.monitors.MonitorTable.remove.Goals as goal

pub invariant_of-self : goal.invariant_of-self
invariant_of-self c = record {
  rising = c.remove.ensures.ordered;
  inverse =
      invert-remove
      (monitor_at c.self.inside.slab)
      (monitor_at c.remove-in-Some.new.self)
      (key_at monitor_cmp c.self.inside.index)
      (key_at monitor_cmp c.remove.new.self)
      c.args.monitor.now
      c.in-Some.key
      c.self.invariant.inverse
      (sym c.remove.ensures.value ∙ c.in-Some.is)
      c.remove.ensures.updates.0
      c.remove-in-Some.ensures.updates.changed
      c.remove-in-Some.ensures.updates.others;
}

pub returns-in-Some-clause-value : goal.returns-in-Some-clause-value
returns-in-Some-clause-value c =
    rw (← c.self.view_is) (sym (ap is_some (sym c.remove.ensures.value ∙ c.in-Some.is)) ∙ has-entries c.args.monitor.now c.self.inside.index.entries)

pub returns-in-Some-clause-rest : goal.returns-in-Some-clause-rest
returns-in-Some-clause-rest c =
    rw (← c.self.view_is) (ap keys_of c.remove.ensures.entries ∙ without-entries c.args.monitor.now c.self.inside.index.entries c.self.invariant.rising)

pub returns-in-None-clause-value : goal.returns-in-None-clause-value
returns-in-None-clause-value c =
    rw (← c.self.view_is) (sym (ap is_some (sym c.remove.ensures.value ∙ c.in-None.is)) ∙ has-entries c.args.monitor.now c.self.inside.index.entries)

pub returns-in-None-clause-rest : goal.returns-in-None-clause-rest
returns-in-None-clause-rest c =
    rw (← c.self.view_is) (ap keys_of c.remove.ensures.entries ∙ without-entries c.args.monitor.now c.self.inside.index.entries c.self.invariant.rising)

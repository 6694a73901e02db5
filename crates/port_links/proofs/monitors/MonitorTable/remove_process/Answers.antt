use Rattle.std.proofs.Common.{◌≡◌, ◌∙◌, ap, not, eqb, rules, filter}
use Rattle.std.specs.Map.{keys_of}
use Rattle.std.specs.BTreeMap.{get as key_at}
use Rattle.std.proofs.lemmas.Map.Made.{filter_same_pairs}
use Rattle.slab.specs.Slab.{get as monitor_at}
use Rattle.port_links.specs.Indexed.{monitor_cmp}
use Rattle.port_links.proofs.MonitorOrder.{other-entries}
use Rattle.port_links.proofs.Inverse.{invert-filter, keys-filter, held-filter}
use Rattle.port_links.proofs.monitors.MonitorTable.remove_process.Goals as goal

left : (c : goal.After-retain-2) → c.retain.new.self.entries ≡ filter (λ e. not (eqb e.0.process c.args.process)) c.self.inside.index.entries
left c = filter_same_pairs _ (λ e. not (eqb e.0.process c.args.process)) _ (λ k v b w f' t. search rules) _ _ c.retain.ensures.filtered

pub invariant_of-self : goal.invariant_of-self
invariant_of-self c = record {
  rising = c.retain.ensures.ordered;
  inverse =
      invert-filter
      (λ m. not (eqb m.process c.args.process))
      (monitor_at c.self.inside.slab)
      (monitor_at c.retain-2.new.self)
      (key_at monitor_cmp c.self.inside.index)
      (key_at monitor_cmp c.retain.new.self)
      c.self.invariant.inverse
      (keys-filter (λ m. not (eqb m.process c.args.process)) c.self.inside.index.entries c.retain.new.self.entries (left c))
      (held-filter _ (λ m. not (eqb m.process c.args.process)) _ (λ key old keep new next t. search rules) 0 _ _ c.retain-2.ensures.retained);
}

pub returns : goal.returns
returns c = rw (← c.self.view_is) (ap keys_of (left c) ∙ other-entries c.args.process c.self.inside.index.entries)

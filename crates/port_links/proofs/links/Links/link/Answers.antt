use Rattle.std.proofs.Common.{◌<◌, length, refl, arith, true}
use Rattle.port_links.proofs.Flags.{with-flag, flag-kept}
use Rattle.port_links.proofs.Views.{same-table}
use Rattle.port_links.proofs.links.Links.link.Goals as goal

pub index_mut-requires : goal.index_mut-requires
index_mut-requires c =
    let known : c.args.process < length c.self.inside.ended.items = rw (← c.self.view_is) at c.requires in
    omega (arith, c.self.inside.linked.ok.0, c.self.invariant.long)

pub invariant_of-self : goal.invariant_of-self
invariant_of-self c = flag-kept _ _ _ _ c.args.process true c.self.invariant

pub returns : goal.returns
returns c =
    let known : c.args.process < length c.self.inside.ended.items = rw (← c.self.view_is) at c.requires in
    rw (← c.self.view_is)
    (same-table _ _ _ _ _ _ _ _ _ (with-flag c.args.process c.self.inside.linked.items (omega (arith, c.self.invariant.long))) refl refl refl)

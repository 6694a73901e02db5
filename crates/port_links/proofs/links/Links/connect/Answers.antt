use Rattle.std.proofs.Common.{◌<◌, length, refl, arith}
use Rattle.port_links.proofs.Flags.{with-flag, owner-kept}
use Rattle.port_links.proofs.Views.{same-table}
use Rattle.port_links.proofs.links.Links.connect.Goals as goal

pub index_mut-requires : goal.index_mut-requires
index_mut-requires c =
    let known : c.args.process < length c.self.inside.ended.items = rw (← c.self.view_is) at (c.may_own.ensures.below c.if-not-may_own.false) in
    omega (arith, c.self.inside.linked.ok.0, c.self.invariant.long)

pub invariant_of-self : goal.invariant_of-self
invariant_of-self c =
    let known : c.args.process < length c.self.inside.ended.items = rw (← c.self.view_is) at (c.may_own.ensures.below c.if-not-may_own.false) in
    owner-kept _ _ _ _ c.args.process c.self.invariant known

pub returns-clause-connected : goal.returns-clause-connected
returns-clause-connected c _ =
    let known : c.args.process < length c.self.inside.ended.items = rw (← c.self.view_is) at (c.may_own.ensures.below c.if-not-may_own.false) in
    rw (← c.self.view_is)
    (same-table _ _ _ _ _ _ _ _ _ (with-flag c.args.process c.self.inside.linked.items (omega (arith, c.self.invariant.long))) refl refl refl)

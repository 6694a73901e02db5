use Rattle.std.proofs.Common.{◌<◌, length, arith, true}
use Rattle.std.proofs.lemmas.List.{length-set}
use Rattle.port_links.proofs.Flags.{with-flag, without-flag, gone-kept}
use Rattle.port_links.proofs.Views.{same-table}
use Rattle.port_links.proofs.links.Links.gone.Goals as goal

pub index_mut-requires-2 : goal.index_mut-requires-2
index_mut-requires-2 c =
    let known : c.args.process < length c.self.inside.ended.items = rw (← c.self.view_is) at c.requires in
    omega (arith, c.self.inside.linked.ok.0, c.self.invariant.long)

pub invariant_of-self : goal.invariant_of-self
invariant_of-self c = gone-kept _ _ _ _ _ c.args.process c.self.invariant c.remove_process.ensures

pub returns : goal.returns
returns c =
    let known : c.args.process < length c.self.inside.ended.items = rw (← c.self.view_is) at c.requires in
    rw (← c.self.view_is)
    (same-table _ _ _ _ _ _ _ _ _
    (without-flag c.args.process c.self.inside.linked.items) c.remove_process.ensures (with-flag c.args.process c.self.inside.ended.items known) (length-set c.self.inside.ended.items c.args.process true))

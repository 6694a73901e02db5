use Rattle.std.proofs.Common.{◌≡◌, ◌∙◌, sym, ap, arith, false, get_or}
use Rattle.std.specs.Option.{unwrap_or}
use Rattle.port_links.proofs.Flags.{has-flag}
use Rattle.port_links.proofs.links.Links.is_ended.Goals as goal

pub returns : goal.returns
returns c =
    let read : c.unwrap_or.result ≡ get_or c.self.inside.ended.items c.args.process false =
    c.unwrap_or.ensures
    ∙ (ap (λ o. unwrap_or o false) c.copied.ensures ∙ (c.get.ensures.lookup.4 (omega arith) false ∙ ap (λ flags. get_or flags c.args.process false) c.deref.ensures.value)) in
    rw (← c.self.view_is) (read ∙ sym (has-flag c.args.process c.self.inside.ended.items))

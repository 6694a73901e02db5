use Rattle.std.proofs.Common.{◌≡◌, ◌∙◌, sym, ap, arith, true, not, get_or}
use Rattle.std.specs.Option.{unwrap_or}
use Rattle.port_links.proofs.Flags.{here-flag, here-below}
use Rattle.port_links.proofs.links.Links.may_own.Goals as goal

pub returns-clause-value : goal.returns-clause-value
returns-clause-value c port same =
    let read : c.unwrap_or.result ≡ get_or c.self.inside.ended.items c.args.process true =
    c.unwrap_or.ensures
    ∙ (ap (λ o. unwrap_or o true) c.copied.ensures ∙ (c.get.ensures.lookup.4 (omega arith) true ∙ ap (λ flags. get_or flags c.args.process true) c.deref.ensures.value)) in
    rw (same, ← c.self.view_is) (ap not read ∙ here-flag c.args.process c.self.inside.ended.items)

pub returns-clause-below : goal.returns-clause-below
returns-clause-below c is =
    let read : c.unwrap_or.result ≡ get_or c.self.inside.ended.items c.args.process true =
    c.unwrap_or.ensures
    ∙ (ap (λ o. unwrap_or o true) c.copied.ensures ∙ (c.get.ensures.lookup.4 (omega arith) true ∙ ap (λ flags. get_or flags c.args.process true) c.deref.ensures.value)) in
    rw (← c.self.view_is) (here-below c.args.process c.self.inside.ended.items (sym (ap not read) ∙ is))

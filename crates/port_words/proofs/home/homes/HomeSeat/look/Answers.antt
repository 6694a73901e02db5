use Rattle.std.proofs.Common.{◌∙◌, ap, sym, arith}
use Rattle.port_words.proofs.lemmas.home.HomeLemmas.{looks}
use Rattle.port_words.proofs.home.homes.HomeSeat.look.Goals as goal

pub load-requires : goal.load-requires
load-requires g c =
    let own = c.self.invariant.0 ∙ ap (λ t. t.shared.table_id) (sym c.deref.ensures) in
    let wide = ap (λ z. z.words) own in
    let one = c.self.invariant.1 in
    (own, omega arith, looks _ _ _ _ _ _ c.self.invariant.3)

use Rattle.std.proofs.Common.{◌∙◌, ap, sym, refl, arith}
use Rattle.port_words.proofs.lemmas.home.HomeLemmas.{queues}
use Rattle.port_words.proofs.home.homes.HomeSeat.try_schedule.Goals as goal

pub compare_exchange-found-requires : goal.compare_exchange-found-requires
compare_exchange-found-requires g c =
    let own = c.self.invariant.0 ∙ ap (λ t. t.shared.table_id) (sym c.deref.ensures) in
    let wide = ap (λ z. z.words) own in
    let one = c.self.invariant.1 in
    (own, omega arith, queues _ _ _ _ _ _ _ _ c.self.invariant.3 c.requires.0 c.requires.1 refl)

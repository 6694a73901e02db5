use Rattle.std.proofs.Common.{◌∙◌, ap, sym, refl, arith}
use Rattle.port_words.proofs.lemmas.home.HomeLemmas.{claims}
use Rattle.port_words.specs.home.Seats.{held}
use Rattle.port_words.proofs.home.homes.HomeSeat.claim.Goals as goal

pub compare_exchange-found-requires : goal.compare_exchange-found-requires
compare_exchange-found-requires g c =
    let own = c.self.invariant.0 ∙ ap (λ t. t.shared.table_id) (sym c.deref.ensures) in
    let wide = ap (λ z. z.words) own in
    let one = c.self.invariant.1 in
    (own, omega arith, claims _ _ _ _ _ _ held c.args.ticket.turn _ _ refl c.self.invariant.2 c.self.invariant.3 refl (omega arith))

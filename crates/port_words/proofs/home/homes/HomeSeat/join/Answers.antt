use Rattle.std.proofs.Common.{◌∙◌, ap, sym, arith}
use Rattle.port_words.proofs.lemmas.home.HomeLemmas.{joins}
use Rattle.port_words.specs.home.Seats.{held}
use Rattle.port_words.proofs.home.homes.HomeSeat.join.Goals as goal

pub join_seat-requires : goal.join_seat-requires
join_seat-requires g c =
    let own = c.self.invariant.0 ∙ ap (λ t. t.shared.table_id) (sym c.deref.ensures) in
    let wide = ap (λ z. z.words) own in
    let one = c.self.invariant.1 in
    let idle = ap (λ k. k.known.running) c.other.view_is ∙ c.requires.idle in
    (own, ap (λ k. k.home) c.other.view_is ∙ c.requires.home ∙ ap (λ k. k.home) (sym c.self.view_is) ∙ own, c.other.invariant.2 ∙ ap held idle, omega arith, joins _ _ _ _ _ _ _ c.self.invariant.3 idle)

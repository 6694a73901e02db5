use Rattle.std.proofs.Common.{ap, refl, arith}
use Rattle.port_words.proofs.lemmas.home.HomeLemmas.{begins}
use Rattle.port_words.specs.home.Seats.{held}
use Rattle.port_words.proofs.home.homes.try_begin.Goals as goal

pub compare_exchange-found-requires : goal.compare_exchange-found-requires
compare_exchange-found-requires g c =
    let wide = ap (λ z. z.words) c.requires.table.0 in
    let one = c.requires.table.1 in
    (c.requires.table.0, omega arith, begins _ _ _ _ _ _ held _ _ refl c.requires.held.0 c.requires.held.1 c.requires.idle.0 refl)

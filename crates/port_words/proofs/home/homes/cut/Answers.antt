use Rattle.std.proofs.Common.{◌∙◌, ap, sym, arith}
use Rattle.port_words.proofs.lemmas.home.HomeLemmas.{cuts}
use Rattle.port_words.proofs.home.homes.cut.Goals as goal

pub split_seat-seat-requires : goal.split_seat-seat-requires
split_seat-seat-requires g c =
    let own = c.requires.table.0 ∙ ap (λ w. w.shared.table_id) (sym c.deref.ensures) in
    let wide = ap (λ z. z.words) own in
    let one = c.requires.table.1 in
    (own, omega arith, cuts _ _ _ _ _ c.requires.shares.1)

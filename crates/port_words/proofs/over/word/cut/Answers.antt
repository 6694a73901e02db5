use Rattle.std.proofs.Common.{◌∙◌, ap, sym, arith}
use Rattle.port_words.proofs.lemmas.over.OverLemmas.{cuts}
use Rattle.port_words.proofs.over.word.cut.Goals as goal

pub split_seat-seat-requires : goal.split_seat-seat-requires
split_seat-seat-requires c =
    let own = c.requires.seat.0 ∙ ap (λ w. w.shared.table_id) (sym (c.deref.ensures ∙ c.in_ok-word.ensures)) in
    let wide = ap (λ z. z.words) own in
    let one = c.requires.seat.1 in
    (own, omega arith, cuts _ _ _ c.requires.places.0)

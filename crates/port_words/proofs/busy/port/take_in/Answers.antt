use Rattle.std.proofs.Common.{◌∙◌, ap, arith}
use Rattle.port_words.proofs.lemmas.busy.BusyLemmas.{both_join, learns}
use Rattle.port_words.proofs.busy.port.take_in.Goals as goal

pub join_seat-requires : goal.join_seat-requires
join_seat-requires c =
    let wide = ap (λ z. z.words) c.requires.table.0 in
    let two = c.requires.table.1 in
    (c.requires.table.0, c.requires.other.0 ∙ c.requires.table.0, c.requires.other.1, omega arith, both_join _ _ _ _ _ c.requires.table.2 c.requires.other.2)

pub load-requires : goal.load-requires
load-requires c =
    let wide = ap (λ z. z.words) c.requires.table.0 in
    let two = c.requires.table.1 in
    (c.join_seat.ensures.0 ∙ c.requires.table.0, omega arith, learns _ _ _ _ (ap (λ m. m.0.setup) c.join_seat.ensures.2 ∙ c.requires.table.2) (ap (λ m. m.0.port) c.join_seat.ensures.2 ∙ c.requires.port.0))

use Rattle.std.proofs.Common.{◌∙◌, ap, sym, arith}
use Rattle.port_words.proofs.lemmas.over.OverLemmas.{joins}
use Rattle.port_words.proofs.over.word.OverSeat.join.Goals as goal

pub join_seat-requires : goal.join_seat-requires
join_seat-requires c =
    let own = c.self.invariant.0 ∙ ap (λ t. t.shared.table_id) (sym c.deref.ensures) in
    let wide = ap (λ z. z.words) own in
    let one = c.self.invariant.1 in
    (own, ap (λ k. k.word) c.other.view_is ∙ c.requires ∙ ap (λ k. k.word) (sym c.self.view_is) ∙ own, c.other.invariant.2, omega arith, joins _ _ _ _ _ c.self.invariant.3)

use Rattle.std.proofs.Common.{◌∙◌, ap, sym, subst, arith}
use Rattle.port_words.proofs.lemmas.over.OverLemmas.{stops}
use Rattle.port_words.specs.over.Over.{HasNotStopped}
use Rattle.port_words.proofs.over.word.OverSeat.stop.Goals as goal

pub fetch_add-found-requires : goal.fetch_add-found-requires
fetch_add-found-requires c =
    let own = c.self.invariant.0 ∙ ap (λ t. t.shared.table_id) (sym c.deref.ensures) in
    let wide = ap (λ z. z.words) own in
    let one = c.self.invariant.1 in
    (own, omega arith, stops _ _ _ _ (subst (λ k. HasNotStopped k.known.places) (sym c.self.view_is) c.requires))

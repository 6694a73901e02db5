use Rattle.std.proofs.Common.{◌∙◌, ap, arith}
use Rattle.port_words.proofs.lemmas.busy.BusyLemmas.{both_join}
use Rattle.port_words.proofs.busy.send.Weight.join_into.Goals as goal

pub join_seat-requires : goal.join_seat-requires
join_seat-requires c =
    let wide = ap (λ z. z.words) c.requires.table.0 in
    let two = c.requires.table.1 in (
      c.requires.table.0,
      ap (λ k. k.table) c.self.view_is ∙ c.requires.weight ∙ c.requires.table.0,
      ap (λ m. m.1) c.self.invariant.0,
      omega arith,
      both_join _ _ _ _ _ c.requires.table.2 (ap (λ m. m.0.removed) c.self.invariant.0),
    )

use Rattle.std.proofs.Common.{◌∙◌, sym, Some, ◌∷◌}
use Rattle.atomic_table.specs.Table.{rest}
use Rattle.port_words.proofs.home.homes.taken.Goals as goal

pub exchange-requires : goal.exchange-requires
exchange-requires g c =
    let x = c.requires.taken in
    (c.requires.table, (Some x.0, x.1 ∙ λ i. (0, Some x.0) ∷ rest (sym x.1 i)))

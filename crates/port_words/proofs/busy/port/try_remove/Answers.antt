use Rattle.std.proofs.Common.{ap, arith}
use Rattle.port_words.proofs.lemmas.busy.BusyLemmas.{remove_one_at}
use Rattle.port_words.proofs.busy.port.try_remove.Goals as goal

pub compare_exchange-found-requires : goal.compare_exchange-found-requires
compare_exchange-found-requires c =
    let wide = ap (λ z. z.words) c.requires.table.0 in
    let two = c.requires.table.1 in
    (c.requires.table.0, omega arith, remove_one_at _ _ _ _ _ _ _ _ _ c.requires.table.2 c.requires.port.0 c.requires.port.1 c.requires.port.2 c.requires.weight.0 c.requires.weight.1 c.after_removal-left.ensures)

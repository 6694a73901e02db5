use Rattle.std.proofs.Common.{◌∙◌, ap, sym, arith}
use Rattle.port_words.proofs.lemmas.busy.BusyLemmas.{adds_at, weights_cuts}
use Rattle.port_words.proofs.busy.send.try_add.Goals as goal

pub compare_exchange_with-found-requires : goal.compare_exchange_with-found-requires
compare_exchange_with-found-requires c =
    let wide = ap (λ z. z.words) c.requires.table.0 in
    let two = c.requires.table.1 in
    (c.requires.table.0, omega arith, adds_at _ _ _ _ _ _ _ _ _ c.requires.table.2 c.requires.view c.after_add-left.ensures c.requires.few.0 c.requires.few.1 c.requires.permitted)

pub split_seat-requires : goal.split_seat-requires
split_seat-requires c =
    let wide = ap (λ z. z.words) c.requires.table.0 in
    let two = c.requires.table.1 in
    let after = (c.compare_exchange_with-found.ensures.2.0 c.if-found-word.false).0 in
    (c.compare_exchange_with-found.ensures.0 ∙ c.requires.table.0, omega arith, weights_cuts _ _ _ (ap (λ m. m.0.setup) after ∙ ap (λ m. m.0.setup) c.requires.view ∙ sym c.requires.table.2))

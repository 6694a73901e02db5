use Rattle.std.proofs.Common.{◌∙◌, ap, sym, arith}
use Rattle.port_words.proofs.lemmas.busy.BusyLemmas.{sender_cuts}
use Rattle.port_words.proofs.busy.port.cut.Goals as goal

pub split_seat-seat-requires : goal.split_seat-seat-requires
split_seat-seat-requires c =
    let same = c.deref.ensures ∙ c.in_ok-table.ensures in
    let own = c.requires.table.0 ∙ ap (λ w. w.shared.table_id) (sym same) in
    let wide = ap (λ z. z.words) own in
    let two = c.requires.table.1 in
    (own, omega arith, sender_cuts _ _ _ (c.requires.senders.1 ∙ sym c.requires.table.2 ∙ ap (λ w. w.shared.key) (sym same)))

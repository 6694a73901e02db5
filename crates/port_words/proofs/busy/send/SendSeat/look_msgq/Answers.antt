use Rattle.std.proofs.Common.{◌∙◌, ap, sym, arith}
use Rattle.port_words.proofs.lemmas.busy.BusyLemmas.{sender_hears_at}
use Rattle.port_words.proofs.busy.send.SendSeat.look_msgq.Goals as goal

pub load-requires : goal.load-requires
load-requires c =
    let own = c.self.invariant.0 ∙ ap (λ t. t.shared.table_id) (sym c.deref.ensures) in
    let key = ap (λ t. t.shared.key) c.deref.ensures ∙ c.self.invariant.2 in
    let wide = ap (λ z. z.words) own in
    let two = c.self.invariant.1 in
    (own, omega arith, sender_hears_at _ _ _ _ _ _ _ key c.self.invariant.3)

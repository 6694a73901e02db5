use Rattle.std.proofs.Common.{◌∙◌, ◌+◌, ap, sym, arith, ◌-◌, ◌*◌, ◌/◌, ◌%◌}
use Rattle.port_words.proofs.lemmas.busy.BusyLemmas.{marks_at}
use Rattle.port_words.proofs.lemmas.busy.StatLemmas.{stat_closed}
use Rattle.port_words.specs.busy.Stat.{stat_of}
use Rattle.port_words.proofs.busy.port.PortSeat.mark_closed.Goals as goal

pub swap-requires : goal.swap-requires
swap-requires c =
    let own = c.self.invariant.0 ∙ ap (λ t. t.shared.table_id) (sym c.deref.ensures) in
    let key = ap (λ t. t.shared.key) c.deref.ensures ∙ c.self.invariant.2 in
    let wide = ap (λ z. z.words) own in
    let two = c.self.invariant.1 in
    (own, omega arith, marks_at _ _ _ _ _ _ (c.self.invariant.3 ∙ sym key) c.self.invariant.4 ((c.after_close-stat.ensures ∙ ap (λ k. k + 6 - (k / 2 % 2) * 2) c.self.invariant.7 ∙ stat_closed c.self.inside.seat.me.0.marks)))

pub invariant_of-self : goal.invariant_of-self
invariant_of-self c =
    let same = c.swap.ensures.0 in
    let after = c.swap.ensures.2.0 in
    let before = c.self.invariant in (
      same ∙ before.0,
      ap (λ z. z.words) same ∙ before.1,
      before.2,
      ap (λ m. m.0.setup) after ∙ before.3,
      ap (λ m. m.0.port) after ∙ before.4,
      ap (λ m. m.0.weights) after ∙ before.5,
      ap (λ m. m.1) after ∙ before.6,
      (c.after_close-stat.ensures ∙ ap (λ k. k + 6 - (k / 2 % 2) * 2) c.self.invariant.7 ∙ stat_closed c.self.inside.seat.me.0.marks) ∙ ap (λ m. stat_of m.0.marks) (sym after),
    )

pub returns-clause-word : goal.returns-clause-word
returns-clause-word c = (c.after_close-stat.ensures ∙ ap (λ k. k + 6 - (k / 2 % 2) * 2) c.self.invariant.7 ∙ stat_closed c.self.inside.seat.me.0.marks) ∙ ap (λ m. stat_of m.0.marks) (sym c.swap.ensures.2.0)

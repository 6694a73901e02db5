use Rattle.std.proofs.Common.{◌≡◌, ◌∙◌, ◌+◌, ◌^◌, ◌<◌, ap, sym, subst, arith, length, false}
use Rattle.port_words.proofs.lemmas.busy.BusyLemmas.{marks_at}
use Rattle.port_words.proofs.lemmas.busy.StatLemmas.{stat_busy, stat_bound}
use Rattle.port_words.specs.busy.Stat.{stat_of, marked_busy}
use Rattle.port_words.proofs.busy.port.PortSeat.mark_busy.Goals as goal

pub overflow_add-stat : goal.overflow_add-stat
overflow_add-stat c =
    let few = subst (λ k. length k.known.marks < 2 ^ 60) (sym c.self.view_is) c.requires.few in
    let bound = stat_bound c.self.inside.seat.me.0.marks in
    let stat = c.self.invariant.7 in
    omega arith

pub swap-requires : goal.swap-requires
swap-requires c =
    let own = c.self.invariant.0 ∙ ap (λ t. t.shared.table_id) (sym c.deref.ensures) in
    let key = ap (λ t. t.shared.key) c.deref.ensures ∙ c.self.invariant.2 in
    let wide = ap (λ z. z.words) own in
    let two = c.self.invariant.1 in
    (own, omega arith, marks_at _ _ _ _ _ _ (c.self.invariant.3 ∙ sym key) c.self.invariant.4 ((ap (λ k. k + 5) c.self.invariant.7 ∙ stat_busy c.self.inside.seat.me.0.marks (subst (λ k. marked_busy k.known.marks ≡ false) (sym c.self.view_is) c.requires.changes))))

pub invariant_of-self : goal.invariant_of-self
invariant_of-self c =
    let same = c.swap.ensures.0 in
    let after = c.swap.ensures.2.0 in
    let before = c.self.invariant in (
      same ∙ before.0,
      ap (λ z. z.words) same ∙ before.1,
      before.2,
      ap (λ m. m.0.setup) after ∙ before.3,
      ap (λ m. m.0.port) after ∙ before.4,
      ap (λ m. m.0.weights) after ∙ before.5,
      ap (λ m. m.1) after ∙ before.6,
      (ap (λ k. k + 5) c.self.invariant.7 ∙ stat_busy c.self.inside.seat.me.0.marks (subst (λ k. marked_busy k.known.marks ≡ false) (sym c.self.view_is) c.requires.changes)) ∙ ap (λ m. stat_of m.0.marks) (sym after),
    )

pub returns-clause-word : goal.returns-clause-word
returns-clause-word c = (ap (λ k. k + 5) c.self.invariant.7 ∙ stat_busy c.self.inside.seat.me.0.marks (subst (λ k. marked_busy k.known.marks ≡ false) (sym c.self.view_is) c.requires.changes)) ∙ ap (λ m. stat_of m.0.marks) (sym c.swap.ensures.2.0)

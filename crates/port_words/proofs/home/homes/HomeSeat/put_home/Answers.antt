use Rattle.std.proofs.Common.{◌∙◌, ◌<◌, ◌∷◌, ap, sym, subst, arith, Some}
use Rattle.atomic_table.specs.Table.{rest}
use Rattle.port_words.proofs.lemmas.home.HomeLemmas.{ends}
use Rattle.port_words.specs.home.Home.{IsNamed}
use Rattle.port_words.specs.home.Seats.{held}
use Rattle.port_words.proofs.home.homes.HomeSeat.put_home.Goals as goal

pub swap-requires : goal.swap-requires
swap-requires g c =
    let own = c.exchange.ensures.0 ∙ c.self.invariant.0 ∙ ap (λ t. t.shared.table_id) (sym c.deref.ensures) in
    let wide = ap (λ z. z.words) (c.self.invariant.0 ∙ ap (λ t. t.shared.table_id) (sym c.deref.ensures)) in
    let one = c.self.invariant.1 in
    let same = ap (λ m. m.0) c.exchange.ensures.3 in
    let runs = ap (λ k. k.known.running) c.self.view_is ∙ c.requires.turn in
    let holds = c.self.invariant.2 ∙ ap held runs in (
      own,
      omega arith,
      ends _ _ _ _ _ _ _ c.args.running.body
          (subst (λ v. 0 < v.shares) (sym same) c.self.invariant.3)
          (ap (λ v. v.running) same ∙ runs)
          c.args.running.in_range
          (ap (λ m. m.1) c.exchange.ensures.3 ∙ λ i. (0, Some c.args.running.body) ∷ rest (holds i))
          (subst (λ v. IsNamed g.B.Lodged.name v.body c.args.running.body) (sym (same ∙ ap (λ k. k.known) c.self.view_is)) c.requires.name),
    )

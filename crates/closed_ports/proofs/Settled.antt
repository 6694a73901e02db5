-- Ports that make their turns one after another.
use Rattle.std.proofs.Common.{◌≡◌, ◌≢◌, ◌<◌, ◌≤◌, ◌+◌, ℕ, Bool, true, false, inl, inr, List, length, get_or, set, refl, sym, ap, ◌∙◌, subst, arith, length-set, get_or-set_same, get_or-set_other, ⊎_elim}
use Rattle.std.proofs.lemmas.Bool.{cases_lt}
use Rattle.port_body.specs.Body.{BodyView}
use Rattle.closed_ports.specs.Settling.{IsAtRest, IsSamePort, IsSettled, IsUnsettled}

-- The ports below this place made their turns, all have settled or one hasn't, and the other ones are as they were
pub record SettleBelow (at : ℕ) (old new : List BodyView) (all : Bool) : Type 0 where
  pub many : length new ≡ length old
  pub below : (port : ℕ) (v w : BodyView) → port < at → IsSamePort (get_or old port v) (get_or new port w)
  pub above : (port : ℕ) (v : BodyView) → at ≤ port → get_or new port v ≡ get_or old port v
  pub rest : (port : ℕ) (v : BodyView) → port < at → IsAtRest (get_or new port v)
  pub settled : all ≡ true → (port : ℕ) (v : BodyView) → port < at → IsSettled (get_or new port v)
  pub unsettled : all ≡ false → (port : ℕ) × (port < at) × ((v : BodyView) → IsUnsettled (get_or new port v))

-- one more port made its turns
module _ (at : ℕ) (old new new' : List BodyView) (all : Bool) (was is : BodyView) (within : at < length old) (before : SettleBelow at old new all)
    (stands : (d : BodyView) → was ≡ get_or new at d) (step : new' ≡ set new at is) (same : IsSamePort was is) where
  here : (d : BodyView) → get_or new' at d ≡ is
  here d = ap (λ l. get_or l at d) step ∙ get_or-set_same new at is d (let m = before.many in omega arith)

  other : (port : ℕ) (d : BodyView) → port ≢ at → get_or new' port d ≡ get_or new port d
  other port d ne = ap (λ l. get_or l port d) step ∙ get_or-set_other new at port is d ne

  at-place : (P : BodyView → Type 0) (port : ℕ) (d : BodyView) → port ≡ at → P is → P (get_or new' port d)
  at-place P port d e p = subst P (sym (ap (λ n. get_or new' n d) e ∙ here d)) p

  earlier : (P : BodyView → Type 0) (port : ℕ) (d : BodyView) → port < at → P (get_or new port d) → P (get_or new' port d)
  earlier P port d less p = subst P (sym (other port d (omega arith))) p

  was-old : (d : BodyView) → was ≡ get_or old at d
  was-old d = stands d ∙ before.above at d (omega arith)

  many-more : length new' ≡ length old
  many-more = ap length step ∙ length-set new at is ∙ before.many

  below-more : (port : ℕ) (v w : BodyView) → port < at + 1 → IsSamePort (get_or old port v) (get_or new' port w)
  below-more port v w under = ⊎_elim
      (λ (less : port < at). earlier (λ x. IsSamePort (get_or old port v) x) port w less (before.below port v w less))
      (λ (more : at ≤ port).
      let e : port ≡ at = omega arith in
      at-place (λ x. IsSamePort (get_or old port v) x) port w e (subst (λ x. IsSamePort x is) (was-old v ∙ ap (λ n. get_or old n v) (sym e)) same))
      (cases_lt port at)

  above-more : (port : ℕ) (v : BodyView) → at + 1 ≤ port → get_or new' port v ≡ get_or old port v
  above-more port v over = other port v (omega arith) ∙ before.above port v (omega arith)

  rest-more : IsAtRest is → (port : ℕ) (v : BodyView) → port < at + 1 → IsAtRest (get_or new' port v)
  rest-more rest port v under = ⊎_elim
      (λ (less : port < at). earlier IsAtRest port v less (before.rest port v less))
      (λ (more : at ≤ port). let e : port ≡ at = omega arith in at-place IsAtRest port v e rest)
      (cases_lt port at)

  -- one more port has settled
  pub more-settled : IsSettled is → SettleBelow (at + 1) old new' all
  more-settled settled = record {
    many = many-more;
    below = below-more;
    above = above-more;
    rest = rest-more (inl settled);
    settled = λ is_all port v under. ⊎_elim
        (λ (less : port < at). earlier IsSettled port v less (before.settled is_all port v less))
        (λ (more : at ≤ port). let e : port ≡ at = omega arith in at-place IsSettled port v e settled)
        (cases_lt port at);
    unsettled = λ not_all.
        let found = before.unsettled not_all in
        let less = found.1 in
        (found.0, omega arith, λ v. earlier IsUnsettled found.0 v less (found.2 v));
  }

  -- one more port hasn't
  pub more-unsettled : IsUnsettled is → SettleBelow (at + 1) old new' false
  more-unsettled unsettled = record {
    many = many-more;
    below = below-more;
    above = above-more;
    rest = rest-more (inr unsettled);
    settled = λ is_all. absurd cc;
    unsettled = λ not_all. (at, omega arith, λ v. at-place IsUnsettled at v refl unsettled);
  }

-- One end of each port's lane is taken in after another.
use Rattle.std.proofs.Common.{◌≡◌, ◌≢◌, ◌<◌, ◌≤◌, ◌+◌, ℕ, List, [], ◌∷◌, length, get_or, set, sym, ap, ◌∙◌, arith, length-set, get_or-set_same, get_or-set_other, ⊎_elim}
use Rattle.std.proofs.lemmas.Bool.{cases_lt}
use Rattle.std.proofs.lemmas.List.{get_or_default}
use Rattle.port_body.specs.Body.{BodyView}
use Rattle.closed_ports.specs.Ends.{LaneEnd, with_end}

-- the ports below this place took their ends in, and the other ones are as they were
pub record TakeBelow (at : ℕ) (old : List BodyView) (ends : List LaneEnd) (new : List BodyView) : Type 0 where
  pub many : length new ≡ length old
  pub below : (port : ℕ) (v w : BodyView) (d : LaneEnd) → port < at → get_or new port v ≡ with_end (get_or old port w) (get_or ends port d)
  pub above : (port : ℕ) (v : BodyView) → at ≤ port → get_or new port v ≡ get_or old port v

some : {X : Type 0} (xs : List X) {n : ℕ} → n < length xs → X
some [] l = absurd (omega arith)
some (x ∷ xs) l = x

pub take-more : (at : ℕ) (old new new' : List BodyView) (ends : List LaneEnd) (end : LaneEnd) → at < length old → ((d : LaneEnd) → end ≡ get_or ends at d) → TakeBelow at old ends new
    → ((v : BodyView) → new' ≡ set new at (with_end (get_or new at v) end)) → TakeBelow (at + 1) old ends new'
take-more at old new new' ends end within is before step = record {
  many = ap length (step (some old within)) ∙ length-set new at _ ∙ before.many;
  below = λ port v w d under. ⊎_elim
      (λ (less : port < at).
      let ne : port ≢ at = omega arith in
      ap (λ l. get_or l port v) (step v) ∙ get_or-set_other new at port _ v ne ∙ before.below port v w d less)
      (λ (more : at ≤ port).
      let same : port ≡ at = omega arith in
      ap (λ l. get_or l port v) (step v) ∙ ap (λ n. get_or (set new at (with_end (get_or new at v) end)) n v) same
      ∙ get_or-set_same new at (with_end (get_or new at v) end) v (let m = before.many in omega arith)
      ∙ ap (λ x. with_end x end) (before.above at v (omega arith) ∙ get_or_default old at v w within) ∙ ap (λ x. with_end (get_or old at w) x) (is d)
      ∙ ap (λ n. with_end (get_or old n w) (get_or ends n d)) (sym same))
      (cases_lt port at);
  above = λ port v over.
      let ne : port ≢ at = omega arith in
      ap (λ l. get_or l port v) (step v) ∙ get_or-set_other new at port _ v ne ∙ before.above port v (omega arith);
}

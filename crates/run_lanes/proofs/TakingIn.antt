-- One end of each lane is taken in after another.
use Rattle.std.proofs.Common.{◌≡◌, ◌≢◌, ◌<◌, ◌≤◌, ◌+◌, ℕ, List, [], ◌∷◌, length, get_or, set, sym, refl, ap, ◌∙◌, arith, length-set, get_or-set_same, get_or-set_other, ⊎_elim}
use Rattle.std.proofs.lemmas.Bool.{cases_lt}
use Rattle.std.proofs.lemmas.List.{get_or_default}
use Rattle.task_queue.specs.Ends.{Sending, Taking}
use Rattle.run_lanes.specs.Ends.{taken_in, TakesEachIn}

module _ {T K : Type 0} where
  -- the ends of the lanes below this place were taken in, and the other lanes are as they were
  pub record TakesBelow (at : ℕ) (old : List (Taking T K)) (ends : List (Sending T K)) (new : List (Taking T K)) : Type 0 where
    pub many : length new ≡ length old
    pub below : (lane : ℕ) (t u : Taking T K) (d : Sending T K) → lane < at → get_or new lane t ≡ taken_in (get_or old lane u) (get_or ends lane d ∷ [])
    pub above : (lane : ℕ) (t : Taking T K) → at ≤ lane → get_or new lane t ≡ get_or old lane t

  pub takes_none : (takers : List (Taking T K)) (ends : List (Sending T K)) → TakesBelow 0 takers ends takers
  takes_none takers ends = record { many = refl; below = λ lane t u d within. absurd (omega arith); above = λ lane t above. refl }

  pub takes_more : (at : ℕ) (old new new' : List (Taking T K)) (ends : List (Sending T K)) (end : Sending T K) → at < length old → ((d : Sending T K) → end ≡ get_or ends at d) → TakesBelow at old ends new
      → ((t : Taking T K) → new' ≡ set new at (taken_in (get_or new at t) (end ∷ []))) → TakesBelow (at + 1) old ends new'
  takes_more at old new new' ends end within is before step = record {
    many = ap length (step (get_or old at (first old within))) ∙ length-set new at _ ∙ before.many;
    below = λ lane t u d under. ⊎_elim
        (λ (less : lane < at).
        let ne : lane ≢ at = omega arith in
        ap (λ l. get_or l lane t) (step t) ∙ get_or-set_other new at lane _ t ne ∙ before.below lane t u d less)
        (λ (more : at ≤ lane).
        let same : lane ≡ at = omega arith in
        ap (λ l. get_or l lane t) (step t) ∙ ap (λ n. get_or (set new at (taken_in (get_or new at t) (end ∷ []))) n t) same
        ∙ get_or-set_same new at (taken_in (get_or new at t) (end ∷ [])) t (let m = before.many in omega arith)
        ∙ ap (λ v. taken_in v (end ∷ [])) (before.above at t (omega arith) ∙ get_or_default old at t u within) ∙ ap (λ v. taken_in (get_or old at u) (v ∷ [])) (is d)
        ∙ ap (λ n. taken_in (get_or old n u) (get_or ends n d ∷ [])) (sym same))
        (cases_lt lane at);
    above = λ lane t over.
        let ne : lane ≢ at = omega arith in
        ap (λ l. get_or l lane t) (step t) ∙ get_or-set_other new at lane _ t ne ∙ before.above lane t (omega arith);
  }
    where
      first : (xs : List (Taking T K)) → at < length xs → Taking T K
      first [] some = absurd (omega arith)
      first (x ∷ xs) some = x

  pub takes_all : (at : ℕ) (old new : List (Taking T K)) (ends : List (Sending T K)) → at ≡ length old → TakesBelow at old ends new → TakesEachIn old ends new
  takes_all at old new ends all takes = record { many = takes.many; each = λ lane t u d within. takes.below lane t u d (omega arith) }

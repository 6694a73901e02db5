-- Lists of which the places change, one after another.
use Rattle.std.proofs.Common.{◌≡◌, ◌≢◌, ◌<◌, ◌≤◌, ◌+◌, ℕ, List, length, get_or, set, sym, refl, ◌∙◌, subst, arith, length-set, get_or-set_same, get_or-set_other, ⊎_elim}
use Rattle.std.proofs.lemmas.Bool.{cases_lt}
use Rattle.std.proofs.lemmas.List.{get_or_default}
use Rattle.run_lanes.specs.Places.{ChangesAt, ChangesEach}

module _ {X : Type 0} where
  -- one was set
  pub changes_at : (P : X → X → Type 0) (place : ℕ) (old new : List X) (was now : X) → place < length old → ((d : X) → was ≡ get_or old place d) → new ≡ set old place now → P was now
      → ChangesAt place P old new
  changes_at P place old new was now within is e holds = subst (ChangesAt place P old) (sym e) (record {
    many = length-set old place now;
    here = λ d f. subst (P (get_or old place d)) (sym (get_or-set_same old place now f within)) (subst (λ x. P x now) (is d) holds);
    others = λ k d ne. get_or-set_other old place k now d ne;
  })

  -- those below this place changed, and the others are as they were
  pub record ChangesBelow (P : ℕ → X → X → Type 0) (at : ℕ) (old new : List X) : Type 0 where
    pub many : length new ≡ length old
    pub below : (k : ℕ) (d e : X) → k < at → P k (get_or old k d) (get_or new k e)
    pub above : (k : ℕ) (d : X) → at ≤ k → get_or new k d ≡ get_or old k d

  pub changes_none : (P : ℕ → X → X → Type 0) (xs : List X) → ChangesBelow P 0 xs xs
  changes_none P xs = record { many = refl; below = λ k d e under. absurd (omega arith); above = λ k d over. refl }

  pub changes_more : (P : ℕ → X → X → Type 0) (Q : X → X → Type 0) (at : ℕ) (old new new' : List X) → ((x y : X) → Q x y → P at x y) → ChangesBelow P at old new → ChangesAt at Q new new'
      → ChangesBelow P (at + 1) old new'
  changes_more P Q at old new new' is before step = record {
    many = step.many ∙ before.many;
    below = λ k d e under. ⊎_elim
        (λ (less : k < at).
        let ne : k ≢ at = omega arith in
        subst (P k (get_or old k d)) (sym (step.others k e ne)) (before.below k d e less))
        (λ (more : at ≤ k).
        let same : at ≡ k = omega arith in
        subst (λ n. P n (get_or old n d) (get_or new' n e)) same
        (subst (λ x. P at x (get_or new' at e)) (before.above at d (omega arith)) (is (get_or new at d) (get_or new' at e) (step.here d e))))
        (cases_lt k at);
    above = λ k d over.
        let ne : k ≢ at = omega arith in
        step.others k d ne ∙ before.above k d (omega arith);
  }

  pub changes_all : (P : ℕ → X → X → Type 0) (at : ℕ) (old new : List X) → at ≡ length old → ChangesBelow P at old new → ChangesEach P old new
  changes_all P at old new all changes = record { many = changes.many; each = λ k d e within. changes.below k d e (omega arith) }

  pub changes_weaken : (P Q : ℕ → X → X → Type 0) (at : ℕ) (old new : List X) → ((k : ℕ) (x y : X) → P k x y → Q k x y) → ChangesBelow P at old new → ChangesBelow Q at old new
  changes_weaken P Q at old new is changes = record { many = changes.many; below = λ k d e under. is k (get_or old k d) (get_or new k e) (changes.below k d e under); above = changes.above }

  -- what stays where nothing changes, and after each change, stays however far the changes came
  pub changes_keep : (R : X → X → Type 0) (at : ℕ) (old new : List X) → ((x : X) → R x x) → ChangesBelow (λ k. R) at old new → ChangesEach (λ k. R) old new
  changes_keep R at old new same changes = record {
    many = changes.many;
    each = λ k d e within. ⊎_elim
        (λ (less : k < at). changes.below k d e less)
        (λ (more : at ≤ k). subst (R (get_or old k d)) (get_or_default old k d e within ∙ sym (changes.above k e more)) (same (get_or old k d)))
        (cases_lt k at);
  }

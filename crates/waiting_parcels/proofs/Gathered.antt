-- Lemmas on what a function gives at 0, 1 and so on.
use Rattle.std.proofs.Common.{◌≡◌, ◌≢◌, ℕ, suc, zero, ◌<◌, ◌≤◌, List, [], ◌∷◌, ◌++◌, length, refl, sym, ap, ◌∙◌, append-nil, append_assoc, arith, length-append, ⊎_elim}
use Rattle.std.proofs.lemmas.Bool.{cases_eq}
use Rattle.waiting_parcels.specs.Queues.{gathered}

module _ {A : Type 0} where
  -- only what is given below k counts
  pub gathered-same : (f g : ℕ → List A) (k : ℕ) → ((j : ℕ) → j < k → f j ≡ g j) → gathered f k ≡ gathered g k
  gathered-same f g zero same = refl
  gathered-same f g (suc k) same =
      ap (λ xs. xs ++ f k) (gathered-same f g k (λ j h. same j (omega arith))) ∙ ap (λ ys. gathered g k ++ ys) (same k (omega arith))

  -- nothing is given from `low` on
  pub length-gathered-le : (f : ℕ → List A) (k : ℕ) → ((j : ℕ) → length (f j) ≤ 1) → length (gathered f k) ≤ k
  length-gathered-le f zero one = omega arith
  length-gathered-le f (suc k) one = omega (arith, length-append (gathered f k) (f k), length-gathered-le f k one, one k)

  -- at one place there is one value more
  pub record IsWithout (f g : ℕ → List A) (at next : ℕ) (x : A) : Type 0 where
    pub after : List A
    pub all : gathered f next ≡ gathered f at ++ x ∷ after
    pub rest : gathered g next ≡ gathered f at ++ after

  pub gathered-without : (f g : ℕ → List A) (at next : ℕ) (x : A) → ((j : ℕ) → j ≢ at → g j ≡ f j) → f at ≡ x ∷ [] → g at ≡ [] → at < next
      → IsWithout f g at next x
  gathered-without f g at zero x same one none below = absurd (omega arith)
  gathered-without f g at (suc k) x same one none below =
      ⊎_elim
      (λ (last : k ≡ at). record {
        after = [];
        all = ap (λ j. gathered f j ++ f j) last ∙ ap (λ xs. gathered f at ++ xs) one;
        rest = ap (λ j. gathered g j ++ g j) last
            ∙ (ap (λ xs. gathered g at ++ xs) none
            ∙ (append-nil (gathered g at) ∙ (gathered-same g f at (λ j h. same j (omega arith)) ∙ sym (append-nil (gathered f at)))));
      })
      (λ (earlier : k ≢ at).
      let w : IsWithout f g at k x = gathered-without f g at k x same one none (omega arith) in
      record {
        after = w.after ++ f k;
        all = ap (λ xs. xs ++ f k) w.all ∙ append_assoc (gathered f at) (x ∷ w.after) (f k);
        rest = ap (λ xs. gathered g k ++ xs) (same k earlier) ∙ (ap (λ xs. xs ++ f k) w.rest ∙ append_assoc (gathered f at) w.after (f k));
      })
      (cases_eq k at)

-- What holds of each view after one is changed or added, and who has which seat.
use Rattle.std.proofs.Common.{◌≡◌, ◌≢◌, ℕ, zero, suc, eqb, cond, ◌⊎◌, inl, inr, ⊎_elim, List, [], ◌∷◌, ◌++◌, length, set, refl, sym, ap, ◌∙◌, subst}
use Rattle.std.proofs.lemmas.Bool.{eq-eqb, ne_eqb}
use mathlib.Core.Option as seat
use mathlib.Core.Option.{some-injective, some-ne-none}
use lib.ListN.{get_elem?}
use Rattle.crossbeam_queue.proofs.Lists.{at_set}

module _ {A : Type 0} where
  at_last_or : (l : List A) (a b : A) (j : ℕ) → get_elem? (l ++ a ∷ []) j ≡ seat.some b → (get_elem? l j ≡ seat.some b) ⊎ ((j ≡ length l) × (a ≡ b))
  at_last_or [] a b zero e = inr (refl, some-injective a b e)
  at_last_or [] a b (suc j) e = absurd (some-ne-none b (sym e))
  at_last_or (x ∷ xs) a b zero e = inl e
  at_last_or (x ∷ xs) a b (suc j) e = ⊎_elim inl (λ (t : (j ≡ length xs) × (a ≡ b)). inr (ap suc t.0, t.1)) (at_last_or xs a b j e)

  -- F holds of each view, once it holds of the one that is written and of each other one
  pub all_set : (F : ℕ → A → Type 0) (views : List A) (pass : ℕ) (w : A) → F pass w
      → ((j : ℕ) (u : A) → j ≢ pass → get_elem? views j ≡ seat.some u → F j u)
      → (j : ℕ) (u : A) → get_elem? (set views pass w) j ≡ seat.some u → F j u
  all_set F views pass w mine others j u e =
      ⊎_elim (λ (x : (j ≡ pass) × (w ≡ u)). subst (λ (y : ℕ × A). F y.0 y.1) (λ i. (sym x.0 i, x.1 i)) mine)
      (λ (x : (j ≢ pass) × (get_elem? views j ≡ seat.some u)). others j u x.0 x.1) (at_set views pass j w u e)

  -- the same of one that comes last
  pub all_push : (F : ℕ → A → Type 0) (views : List A) (w : A) → F (length views) w
      → ((j : ℕ) (u : A) → get_elem? views j ≡ seat.some u → F j u)
      → (j : ℕ) (u : A) → get_elem? (views ++ w ∷ []) j ≡ seat.some u → F j u
  all_push F views w mine others j u e =
      ⊎_elim (others j u)
      (λ (x : (j ≡ length views) × (w ≡ u)). subst (λ (y : ℕ × A). F y.0 y.1) (λ i. (sym x.0 i, x.1 i)) mine) (at_last_or views w u j e)

-- the seats with another one at number n
abbrev pub seat_at : (ℕ → seat.Option ℕ) → ℕ → seat.Option ℕ → ℕ → seat.Option ℕ
seat_at seats n s k = cond (eqb k n) s (seats k)

pub seat_at-same : (seats : ℕ → seat.Option ℕ) (n : ℕ) (s : seat.Option ℕ) → seat_at seats n s n ≡ s
seat_at-same seats n s = ap (λ b. cond b s (seats n)) (eq-eqb n n refl)

pub seat_at-else : (seats : ℕ → seat.Option ℕ) (n : ℕ) (s : seat.Option ℕ) (k : ℕ) → k ≢ n → seat_at seats n s k ≡ seats k
seat_at-else seats n s k other = ap (λ b. cond b s (seats k)) (ne_eqb k n other)

-- two numbers differ where one has a pass and the other none, or where their passes differ
pub apart_by_none : (seats : ℕ → seat.Option ℕ) (a b pass : ℕ) → seats a ≡ seat.none → seats b ≡ seat.some pass → a ≢ b
apart_by_none seats a b pass none some e = some-ne-none pass (sym some ∙ ap seats (sym e) ∙ none)

pub apart_by_pass : (seats : ℕ → seat.Option ℕ) (a b p q : ℕ) → seats a ≡ seat.some p → seats b ≡ seat.some q → p ≢ q → a ≢ b
apart_by_pass seats a b p q at_a at_b other e = other (some-injective p q (sym at_a ∙ ap seats e ∙ at_b))

-- What a sum over the views of a table becomes at a step, a split and a join, and what one view's part in it is.
use Rattle.std.proofs.Common.{◌≡◌, ℕ, zero, suc, ◌+◌, ◌≤◌, ◌≢◌, List, [], ◌∷◌, ◌++◌, set, sym, refl, ap, subst, arith}
use Rattle.std.specs.List.{All, sum_by}
use Rattle.std.proofs.lemmas.List.Sums.{sum_by-cons, sum_by-append}
use Rattle.std.proofs.lemmas.List.Elements.{All-head, All-tail}
use mathlib.Core.Option.{some, some-injective, some-ne-none}
use lib.ListN.{get_elem?}

module _ {V : Type 0} where
  -- one view becomes another
  pub sum_set : (f : V → ℕ) (views : List V) (i : ℕ) (v w : V) → get_elem? views i ≡ some v → sum_by f (set views i w) + f v ≡ sum_by f views + f w
  sum_set f [] i v w e = absurd (some-ne-none v (sym e))
  sum_set f (x ∷ xs) zero v w e =
      let same : f x ≡ f v = ap f (some-injective x v e) in
      let before = sum_by-cons f x xs in
      let after = sum_by-cons f w xs in
      omega arith
  sum_set f (x ∷ xs) (suc i) v w e =
      let inner = sum_set f xs i v w e in
      let before = sum_by-cons f x xs in
      let after = sum_by-cons f x (set xs i w) in
      omega arith

  -- one view is cut in two
  pub sum_split : (f : V → ℕ) (views : List V) (i : ℕ) (v left right : V) → get_elem? views i ≡ some v → sum_by f (set views i left ++ right ∷ []) + f v ≡ sum_by f views + (f left + f right)
  sum_split f views i v left right e =
      let one = sum_set f views i v left e in
      let more = sum_by-append f (set views i left) (right ∷ []) in
      omega arith

  -- two views become one, and what is spent
  pub sum_join : (f : V → ℕ) (views : List V) (i : ℕ) (v both : V) (j : ℕ) (w spent : V) → get_elem? views i ≡ some v → get_elem? (set views i both) j ≡ some w
      → sum_by f (set (set views i both) j spent) + (f v + f w) ≡ sum_by f views + (f both + f spent)
  sum_join f views i v both j w spent e e' =
      let one = sum_set f views i v both e in
      let two = sum_set f (set views i both) j w spent e' in
      omega arith

  -- a view's part is at most the sum
  pub sum_at : (f : V → ℕ) (views : List V) (i : ℕ) (v : V) → get_elem? views i ≡ some v → f v ≤ sum_by f views
  sum_at f [] i v e = absurd (some-ne-none v (sym e))
  sum_at f (x ∷ xs) zero v e =
      let same : f x ≡ f v = ap f (some-injective x v e) in
      let all = sum_by-cons f x xs in
      omega arith
  sum_at f (x ∷ xs) (suc i) v e =
      let inner = sum_at f xs i v e in
      let all = sum_by-cons f x xs in
      omega arith

  -- and so are the parts of two views together
  pub sum_at_two : (f : V → ℕ) (views : List V) (i j : ℕ) (v w : V) → get_elem? views i ≡ some v → get_elem? views j ≡ some w → i ≢ j → f v + f w ≤ sum_by f views
  sum_at_two f [] i j v w e e' ne = absurd (some-ne-none v (sym e))
  sum_at_two f (x ∷ xs) zero zero v w e e' ne = absurd (ne refl)
  sum_at_two f (x ∷ xs) zero (suc j) v w e e' ne =
      let same : f x ≡ f v = ap f (some-injective x v e) in
      let inner = sum_at f xs j w e' in
      let all = sum_by-cons f x xs in
      omega arith
  sum_at_two f (x ∷ xs) (suc i) zero v w e e' ne =
      let same : f x ≡ f w = ap f (some-injective x w e') in
      let inner = sum_at f xs i v e in
      let all = sum_by-cons f x xs in
      omega arith
  sum_at_two f (x ∷ xs) (suc i) (suc j) v w e e' ne =
      let inner = sum_at_two f xs i j v w e e' (λ same. ne (ap suc same)) in
      let all = sum_by-cons f x xs in
      omega arith

  pub sum_by-nothing : (f g : V → ℕ) → ((u : V) → g u ≡ 0 → f u ≡ 0) → (views : List V) → sum_by g views ≡ 0 → sum_by f views ≡ 0
  sum_by-nothing f g none [] e = refl
  sum_by-nothing f g none (x ∷ xs) e =
      let parts = sum_by-cons g x xs in
      let here = none x (omega arith) in
      let inner = sum_by-nothing f g none xs (omega arith) in
      let all = sum_by-cons f x xs in
      omega arith

  -- where one view has all of g, it has all of each f that is nothing where g is
  pub sum_alone : (f g : V → ℕ) → ((u : V) → g u ≡ 0 → f u ≡ 0) → (views : List V) (i : ℕ) (v : V) → get_elem? views i ≡ some v → sum_by g views ≡ g v → sum_by f views ≡ f v
  sum_alone f g none [] i v e all = absurd (some-ne-none v (sym e))
  sum_alone f g none (x ∷ xs) zero v e all =
      let same : f x ≡ f v = ap f (some-injective x v e) in
      let same' : g x ≡ g v = ap g (some-injective x v e) in
      let parts = sum_by-cons g x xs in
      let inner = sum_by-nothing f g none xs (omega arith) in
      let all' = sum_by-cons f x xs in
      omega arith
  sum_alone f g none (x ∷ xs) (suc i) v e all =
      let parts = sum_by-cons g x xs in
      let most = sum_at g xs i v e in
      let here = none x (omega arith) in
      let inner = sum_alone f g none xs i v e (omega arith) in
      let all' = sum_by-cons f x xs in
      omega arith

  pub sum_by-at_most : (f g : V → ℕ) → ((u : V) → f u ≤ g u) → (views : List V) → sum_by f views ≤ sum_by g views
  sum_by-at_most f g below [] = omega arith
  sum_by-at_most f g below (x ∷ xs) =
      let inner = sum_by-at_most f g below xs in
      let here = below x in
      let one = sum_by-cons f x xs in
      let two = sum_by-cons g x xs in
      omega arith

  pub sum_by-sum : (f g h : V → ℕ) → ((u : V) → h u ≡ f u + g u) → (views : List V) → sum_by h views ≡ sum_by f views + sum_by g views
  sum_by-sum f g h is [] = refl
  sum_by-sum f g h is (x ∷ xs) =
      let inner = sum_by-sum f g h is xs in
      let here = is x in
      let one = sum_by-cons f x xs in
      let two = sum_by-cons g x xs in
      let three = sum_by-cons h x xs in
      omega arith

  pub sum_by-same : (f g : V → ℕ) → ((u : V) → f u ≡ g u) → (views : List V) → sum_by f views ≡ sum_by g views
  sum_by-same f g is [] = refl
  sum_by-same f g is (x ∷ xs) =
      let inner = sum_by-same f g is xs in
      let here = is x in
      let one = sum_by-cons f x xs in
      let two = sum_by-cons g x xs in
      omega arith

  -- what holds of each view holds of one
  pub all_at : (P : V → Type 0) (views : List V) (i : ℕ) (v : V) → All P views → get_elem? views i ≡ some v → P v
  all_at P [] i v each e = absurd (some-ne-none v (sym e))
  all_at P (x ∷ xs) zero v each e = subst P (some-injective x v e) (All-head P x xs each)
  all_at P (x ∷ xs) (suc i) v each e = all_at P xs i v (All-tail P x xs each) e

  sum_by-nothing_where : (f g : V → ℕ) (views : List V) → All (λ u. g u ≡ 0 → f u ≡ 0) views → sum_by g views ≡ 0 → sum_by f views ≡ 0
  sum_by-nothing_where f g [] none e = refl
  sum_by-nothing_where f g (x ∷ xs) none e =
      let parts = sum_by-cons g x xs in
      let here = All-head (λ u. g u ≡ 0 → f u ≡ 0) x xs none (omega arith) in
      let inner = sum_by-nothing_where f g xs (All-tail (λ u. g u ≡ 0 → f u ≡ 0) x xs none) (omega arith) in
      let all = sum_by-cons f x xs in
      omega arith

  -- the same of f that is nothing where g is in these views
  pub sum_alone_where : (f g : V → ℕ) (views : List V) (i : ℕ) (v : V) → All (λ u. g u ≡ 0 → f u ≡ 0) views → get_elem? views i ≡ some v → sum_by g views ≡ g v → sum_by f views ≡ f v
  sum_alone_where f g [] i v none e all = absurd (some-ne-none v (sym e))
  sum_alone_where f g (x ∷ xs) zero v none e all =
      let same : f x ≡ f v = ap f (some-injective x v e) in
      let same' : g x ≡ g v = ap g (some-injective x v e) in
      let parts = sum_by-cons g x xs in
      let inner = sum_by-nothing_where f g xs (All-tail (λ u. g u ≡ 0 → f u ≡ 0) x xs none) (omega arith) in
      let all' = sum_by-cons f x xs in
      omega arith
  sum_alone_where f g (x ∷ xs) (suc i) v none e all =
      let parts = sum_by-cons g x xs in
      let most = sum_at g xs i v e in
      let here = All-head (λ u. g u ≡ 0 → f u ≡ 0) x xs none (omega arith) in
      let inner = sum_alone_where f g xs i v (All-tail (λ u. g u ≡ 0 → f u ≡ 0) x xs none) e (omega arith) in
      let all' = sum_by-cons f x xs in
      omega arith

  sum_by-none : (f : V → ℕ) (views : List V) → ((j : ℕ) (u : V) → get_elem? views j ≡ some u → f u ≡ 0) → sum_by f views ≡ 0
  sum_by-none f [] none = refl
  sum_by-none f (x ∷ xs) none =
      let here = none 0 x refl in
      let inner = sum_by-none f xs (λ j u e. none (suc j) u e) in
      let all = sum_by-cons f x xs in
      omega arith

  -- where no other view has any of f, one view has all of it
  pub sum_only : (f : V → ℕ) (views : List V) (i : ℕ) (v : V) → get_elem? views i ≡ some v → ((j : ℕ) (u : V) → get_elem? views j ≡ some u → j ≢ i → f u ≡ 0) → sum_by f views ≡ f v
  sum_only f [] i v e none = absurd (some-ne-none v (sym e))
  sum_only f (x ∷ xs) zero v e none =
      let same : f x ≡ f v = ap f (some-injective x v e) in
      let inner = sum_by-none f xs (λ j u here. none (suc j) u here (λ e'. absurd (omega arith))) in
      let all = sum_by-cons f x xs in
      omega arith
  sum_only f (x ∷ xs) (suc i) v e none =
      let here = none 0 x refl (λ e'. absurd (omega arith)) in
      let inner = sum_only f xs i v e (λ j u at ne. none (suc j) u at (λ e'. ne (omega arith))) in
      let all = sum_by-cons f x xs in
      omega arith

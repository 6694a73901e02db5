-- Lists in strictly rising order: an insert at the place that a binary search found, and a removal.
use Rattle.std.proofs.Common.{◌≡◌, ℕ, zero, suc, ◌+◌, ◌<◌, ◌≤◌, Bool, true, false, ◌||◌, ◌&&◌, not, List, [], ◌∷◌, length, refl, sym, ap, ◌∙◌, arith, cond, Result, Ok, Err, is_ok}
use Rattle.std.specs.List.{list_any, filter, insert, remove, AllWithin, HoldsAt, AllByRecursion, slice_index_or}
use Rattle.std.specs.List.Sorted.{IsStrictlySortedBy, IsPartitionPoint, IsNonDecreasingBy, IsBinarySearchResult, IsSearchInRange}
use Rattle.std.specs.Cmp.{IsTotalOrder}
use Rattle.std.specs.Ordering.{ordering_reverse, ordering_index, is_lt, is_eq}
use Rattle.std.specs.declared.cmp.Ordering.{Ordering}
use Rattle.std.specs.declared.cmp.Ordering.TheVariants.{Less, Equal, Greater}
use Rattle.std.proofs.lemmas.List.Sorted.{searchable_from_sorted}
use Rattle.std.proofs.lemmas.List.Folds.{list_any_at}
use Rattle.std.proofs.lemmas.Map.Keys.{Less-from_sorted}

-- what holds within a list holds of its first element, and within its rest
within_rest : {K : Type 0} (P : K → Type 0) (y : K) (ys : List K) (low high : ℕ) → AllWithin P (y ∷ ys) (suc low) (suc high) → AllWithin P ys low high
within_rest P y ys low high all = λ k d from to. all (suc k) d (omega arith) (omega arith)

within_front : {K : Type 0} (P : K → Type 0) (y : K) (ys : List K) (high : ℕ) → AllWithin P (y ∷ ys) 0 (suc high) → AllWithin P ys 0 high
within_front P y ys high all = λ k d from to. all (suc k) d (omega arith) (omega arith)

swap_or : (a b c : Bool) → (a || (b || c)) ≡ (b || (a || c))
swap_or true true c = refl
swap_or true false c = refl
swap_or false b c = refl

-- an element that is put in is the one more that may pass a test
pub any-insert : {K : Type 0} (p : K → Bool) (xs : List K) (i : ℕ) (x : K) → list_any p (insert xs i x) ≡ (p x || list_any p xs)
any-insert p xs zero x = refl
any-insert p [] (suc i) x = refl
any-insert p (y ∷ ys) (suc i) x = ap (λ rest. p y || rest) (any-insert p ys i x) ∙ swap_or (p y) (p x) (list_any p ys)

module _ {K : Type 0} (c : K → K → Ordering) (o : IsTotalOrder c) where
  reversed : (x y : K) (r : Ordering) → c x y ≡ r → c y x ≡ ordering_reverse r
  reversed x y r is = o.antisymm y x ∙ ap ordering_reverse is

  all_above : (x : K) (xs : List K) → AllWithin (λ y. c y x ≡ Greater) xs 0 (length xs) → AllByRecursion (λ y. c x y ≡ Less) xs
  all_above x [] above = tt
  all_above x (y ∷ ys) above = (reversed y x Greater (above 0 y (omega arith) (omega arith)), all_above x ys (within_front (λ z. c z x ≡ Greater) y ys (length ys) above))

  insert_below : (y x : K) (xs : List K) (i : ℕ) → c y x ≡ Less → AllByRecursion (λ z. c y z ≡ Less) xs → AllByRecursion (λ z. c y z ≡ Less) (insert xs i x)
  insert_below y x xs zero less all = (less, all)
  insert_below y x [] (suc i) less all = (less, tt)
  insert_below y x (z ∷ zs) (suc i) less all = (all.0, insert_below y x zs i less all.1)

  pub sorted-insert : (xs : List K) (i : ℕ) (x : K) → IsStrictlySortedBy c xs → i ≤ length xs → IsPartitionPoint (λ y. c y x ≡ Less) (λ y. c y x ≡ Greater) xs i → IsStrictlySortedBy c (insert xs i x)
  unfolding IsStrictlySortedBy
  sorted-insert xs zero x sorted le point = (all_above x xs point.1, sorted)
  sorted-insert [] (suc i) x sorted le point = (tt, tt)
  sorted-insert (y ∷ ys) (suc i) x sorted le point =
      (insert_below y x ys i (point.0 0 y (omega arith) (omega arith)) sorted.0, sorted-insert ys i x sorted.1 (omega arith) (within_front (λ z. c z x ≡ Less) y ys i point.0, within_rest (λ z. c z x ≡ Greater) y ys i (length ys) point.1))

  remove_below : (y : K) (xs : List K) (i : ℕ) → AllByRecursion (λ z. c y z ≡ Less) xs → AllByRecursion (λ z. c y z ≡ Less) (remove xs i)
  remove_below y [] zero all = all
  remove_below y [] (suc i) all = all
  remove_below y (z ∷ zs) zero all = all.1
  remove_below y (z ∷ zs) (suc i) all = (all.0, remove_below y zs i all.1)

  pub sorted-remove : (xs : List K) (i : ℕ) → IsStrictlySortedBy c xs → IsStrictlySortedBy c (remove xs i)
  unfolding IsStrictlySortedBy
  sorted-remove [] zero sorted = sorted
  sorted-remove [] (suc i) sorted = sorted
  sorted-remove (y ∷ ys) zero sorted = sorted.1
  sorted-remove (y ∷ ys) (suc i) sorted = (remove_below y ys i sorted.0, sorted-remove ys i sorted.1)

  -- a binary search in a sorted list finds the place to insert at
  pub searched_place : (xs : List K) (x : K) (i : ℕ) → IsStrictlySortedBy c xs → (IsNonDecreasingBy (λ y. ordering_index (c y x)) xs → IsPartitionPoint (λ y. c y x ≡ Less) (λ y. c y x ≡ Greater) xs i) → IsPartitionPoint (λ y. c y x ≡ Less) (λ y. c y x ≡ Greater) xs i
  searched_place xs x i sorted search_says =
      search_says (searchable_from_sorted o (λ y. y) xs x (λ k d from to. ap is_lt (reversed (slice_index_or xs k d) (slice_index_or xs (k + 1) d) Less (Less-from_sorted c xs k (k + 1) d sorted (omega arith) to))))

  -- a test that passes only what equals x fails everywhere round a place to insert x at
  pub none_beside : (p : K → Bool) (x : K) (xs : List K) (i : ℕ) → ((y : K) → p y ≡ true → c y x ≡ Equal) → IsPartitionPoint (λ y. c y x ≡ Less) (λ y. c y x ≡ Greater) xs i → list_any p xs ≡ false
  none_beside p x [] i only point = refl
  none_beside p x (y ∷ ys) zero only point =
      elim (p y) as (λ b. p y ≡ b → (b || list_any p ys) ≡ false) [
        | true ↦ λ yes. absurd (clash (only y yes) (point.1 0 y (omega arith) (omega arith)))
        | false ↦ λ no. none_beside p x ys 0 only (λ k d from to. absurd (omega arith), within_front (λ z. c z x ≡ Greater) y ys (length ys) point.1)
      ] refl
    where
      clash : c y x ≡ Equal → c y x ≡ Greater → ⊥
      clash e g = cc
  none_beside p x (y ∷ ys) (suc i) only point =
      elim (p y) as (λ b. p y ≡ b → (b || list_any p ys) ≡ false) [
        | true ↦ λ yes. absurd (clash (only y yes) (point.0 0 y (omega arith) (omega arith)))
        | false ↦ λ no. none_beside p x ys i only (within_front (λ z. c z x ≡ Less) y ys i point.0, within_rest (λ z. c z x ≡ Greater) y ys i (length ys) point.1)
      ] refl
    where
      clash : c y x ≡ Equal → c y x ≡ Less → ⊥
      clash e g = cc

  -- no two of a sorted list equal x
  no_two : (x y z : K) → c y x ≡ Equal → c z x ≡ Equal → c y z ≡ Less → ⊥
  no_two x y z left right less = let same = o.congr y x z left in let back = reversed z x Equal right in cc

  rec_at : (P : K → Type 0) (xs : List K) (k : ℕ) (d : K) → AllByRecursion P xs → k < length xs → P (slice_index_or xs k d)
  rec_at P [] k d all within = absurd (omega arith)
  rec_at P (y ∷ ys) zero d all within = all.0
  rec_at P (y ∷ ys) (suc k) d all within = rec_at P ys k d all.1 (omega arith)

  pub none_above : (p : K → Bool) (x y : K) (ys : List K) → ((z : K) → p z ≡ true → c z x ≡ Equal) → c y x ≡ Equal → AllByRecursion (λ z. c y z ≡ Less) ys → list_any p ys ≡ false
  none_above p x y [] only here above = refl
  none_above p x y (z ∷ zs) only here above =
      elim (p z) as (λ b. p z ≡ b → (b || list_any p zs) ≡ false) [
        | true ↦ λ yes. absurd (no_two x y z here (only z yes) above.0)
        | false ↦ λ no. none_above p x y zs only here above.1
      ] refl

  -- what equals the element that is taken out of a sorted list isn't in it any more
  pub none_left : (p : K → Bool) (x : K) (xs : List K) (i : ℕ) → ((y : K) → p y ≡ true → c y x ≡ Equal) → IsStrictlySortedBy c xs → i < length xs → HoldsAt (λ y. c y x ≡ Equal) xs i → list_any p (remove xs i) ≡ false
  unfolding IsStrictlySortedBy
  none_left p x [] i only sorted within here = absurd (omega arith)
  none_left p x (y ∷ ys) zero only sorted within here = none_above p x y ys only (here y) sorted.0
  none_left p x (y ∷ ys) (suc i) only sorted within here =
      let less : c y (slice_index_or ys i y) ≡ Less = rec_at (λ z. c y z ≡ Less) ys i y sorted.0 (omega arith) in
      elim (p y) as (λ b. p y ≡ b → (b || list_any p (remove ys i)) ≡ false) [
        | true ↦ λ yes. absurd (no_two x y (slice_index_or ys i y) (only y yes) (here y) less)
        | false ↦ λ no. none_left p x ys i only sorted.1 (omega arith) here
      ] refl

-- an element that fails a test may be taken out
pub any-remove : {K : Type 0} (p : K → Bool) (xs : List K) (i : ℕ) → ((d : K) → i < length xs → p (slice_index_or xs i d) ≡ false) → list_any p (remove xs i) ≡ list_any p xs
any-remove p [] zero fails = refl
any-remove p [] (suc i) fails = refl
any-remove p (y ∷ ys) zero fails = rw (fails y (omega arith)) refl
any-remove p (y ∷ ys) (suc i) fails = ap (λ rest. p y || rest) (any-remove p ys i (λ d within. fails d (omega arith)))

list_any-same : {K : Type 0} (p q : K → Bool) → ((y : K) → p y ≡ q y) → (xs : List K) → list_any p xs ≡ list_any q xs
list_any-same p q same [] = refl
list_any-same p q same (x ∷ xs) = let head = same x in let rest = list_any-same p q same xs in cc

is_Equal : (r : Ordering) → is_eq r ≡ true → r ≡ Equal
is_Equal Less e = absurd (cc)
is_Equal Equal e = refl
is_Equal Greater e = absurd (cc)

-- A list in strictly rising order by a comparison whose ties are what a test finds the same
module _ {K : Type 0} (c : K → K → Ordering) (o : IsTotalOrder c) (same : K → K → Bool) (ties : (y x : K) → same y x ≡ is_eq (c y x)) where
  pub only : (x y : K) → same y x ≡ true → c y x ≡ Equal
  only x y equal = is_Equal (c y x) (sym (ties y x) ∙ equal)

  -- what is the same as e is the same as what e is the same as
  alike : (e other : K) → same e other ≡ true → (y : K) → same y e ≡ same y other
  alike e other equal y =
      let to_both : c e y ≡ c other y = o.congr e other y (only other e equal) in
      ties y e ∙ ap is_eq (o.antisymm y e ∙ ap ordering_reverse to_both ∙ sym (o.antisymm y other)) ∙ sym (ties y other)

  pub any-searched : (xs : List K) (e : K) (r : Result ℕ ℕ) → IsStrictlySortedBy c xs → IsSearchInRange r (length xs) → IsBinarySearchResult (λ y. c y e) xs r → is_ok r ≡ list_any (λ y. same y e) xs
  any-searched xs e (Ok i) sorted within there = sym (list_any_at (λ y. same y e) xs i e within (ties (slice_index_or xs i e) e ∙ ap is_eq (there e)))
  any-searched xs e (Err i) sorted within place = sym (none_beside c o (λ y. same y e) e xs i (only e) (searched_place c o xs e i sorted place))

  pub any-again : (xs : List K) (e other : K) → list_any (λ y. same y e) xs ≡ true → list_any (λ y. same y other) xs ≡ (same e other || list_any (λ y. same y other) xs)
  any-again xs e other there =
      elim (same e other) as (λ b. same e other ≡ b → list_any (λ y. same y other) xs ≡ (b || list_any (λ y. same y other) xs)) [
        | true ↦ λ equal. sym (list_any-same (λ y. same y e) (λ y. same y other) (alike e other equal) xs) ∙ there
        | false ↦ λ _. refl
      ] refl

  pub any-removed : (xs : List K) (e other : K) (i : ℕ) → IsStrictlySortedBy c xs → i < length xs → HoldsAt (λ y. c y e ≡ Equal) xs i
      → list_any (λ y. same y other) (remove xs i) ≡ (list_any (λ y. same y other) xs && not (same e other))
  any-removed xs e other i sorted within here =
      elim (same e other) as (λ b. same e other ≡ b → list_any (λ y. same y other) (remove xs i) ≡ (list_any (λ y. same y other) xs && not b)) [
        | true ↦ λ equal. none_left c o (λ y. same y other) other xs i (only other) sorted within (λ d. o.congr (slice_index_or xs i d) e other (here d) ∙ only other e equal) ∙ sym (nothing (list_any (λ y. same y other) xs))
        | false ↦ λ differ. any-remove (λ y. same y other) xs i (λ d _. ties (slice_index_or xs i d) other ∙ ap is_eq (o.congr (slice_index_or xs i d) e other (here d)) ∙ sym (ties e other) ∙ differ) ∙ sym (all (list_any (λ y. same y other) xs))
      ] refl
    where
      nothing : (b : Bool) → (b && false) ≡ false
      nothing true = refl
      nothing false = refl

      all : (b : Bool) → (b && true) ≡ b
      all true = refl
      all false = refl

  pub any-left : (xs : List K) (e other : K) → list_any (λ y. same y e) xs ≡ false → list_any (λ y. same y other) xs ≡ (list_any (λ y. same y other) xs && not (same e other))
  any-left xs e other missing =
      elim (same e other) as (λ b. same e other ≡ b → list_any (λ y. same y other) xs ≡ (list_any (λ y. same y other) xs && not b)) [
        | true ↦ λ equal. let out : list_any (λ y. same y other) xs ≡ false = sym (list_any-same (λ y. same y e) (λ y. same y other) (alike e other equal) xs) ∙ missing in rw out refl
        | false ↦ λ _. sym (all (list_any (λ y. same y other) xs))
      ] refl
    where
      all : (b : Bool) → (b && true) ≡ b
      all true = refl
      all false = refl

all_filter : {K : Type 0} (P : K → Type 0) (p : K → Bool) (xs : List K) → AllByRecursion P xs → AllByRecursion P (filter p xs)
all_filter P p [] all = tt
all_filter P p (x ∷ xs) all = elim (p x) as (λ b. AllByRecursion P (cond b (x ∷ filter p xs) (filter p xs))) [ true ↦ (all.0, all_filter P p xs all.1) | false ↦ all_filter P p xs all.1 ]

pub sorted-filter : {K : Type 0} (c : K → K → Ordering) (p : K → Bool) (xs : List K) → IsStrictlySortedBy c xs → IsStrictlySortedBy c (filter p xs)
unfolding IsStrictlySortedBy
sorted-filter c p [] sorted = tt
sorted-filter c p (x ∷ xs) sorted =
    elim (p x) as (λ b. IsStrictlySortedBy c (cond b (x ∷ filter p xs) (filter p xs))) [
      | true ↦ (all_filter (λ y. c x y ≡ Less) p xs sorted.0, sorted-filter c p xs sorted.1)
      | false ↦ sorted-filter c p xs sorted.1
    ]

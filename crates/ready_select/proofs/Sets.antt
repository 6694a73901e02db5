-- Sets of events: what a search in the list finds, and what an insert and a removal leave.
use Rattle.std.proofs.Common.{◌≡◌, ℕ, suc, ◌<◌, ◌≤◌, ◌==◌, Bool, true, false, ◌||◌, ◌&&◌, not, List, [], ◌∷◌, length, refl, sym, ◌∙◌, subst, arith, Result, Ok, Err, is_ok, inl, inr, eqb-true, eq-eqb}
use Rattle.std.specs.List.{insert, remove, HoldsAt, slice_index_or, AllByRecursion, IsDistinct}
use Rattle.std.specs.List.Sorted.{IsStrictlySortedBy, IsStrictlyIncreasing, IsBinarySearchResult, IsSearchInRange}
use Rattle.std.proofs.lemmas.Map.Keys.{IsStrictlyIncreasing-from_sorted, sorted_from_strictly_increasing}
use Rattle.outside.specs.Sublist.{IsSublist}
use Rattle.std.specs.Ordering.{nat_cmp}
use Rattle.std.specs.declared.cmp.Ordering.TheVariants.{Equal, Less}
use Rattle.std.proofs.lemmas.Cmp.{nat_cmp_total, tied_itself, ranked}
use Rattle.std.proofs.lemmas.List.Folds.{list_any_at, Any-from_list_any}
use Rattle.std.proofs.lemmas.List.Edits.{length-remove}
use Rattle.std.proofs.lemmas.List.{get_or_default}
use Rattle.ready_select.specs.Sets.{has}
use Rattle.ready_select.proofs.Sorted.{sorted-insert, searched_place, none_beside, none_left, any-remove, sorted-remove}

same : (x y : ℕ) → (y == x) ≡ true → nat_cmp y x ≡ Equal
same x y equal = let is : y ≡ x = eqb-true y x equal in subst (λ z. nat_cmp z x ≡ Equal) (sym is) (tied_itself nat_cmp_total x)

-- a search finds an event exactly where it is there
pub has-searched : (xs : List ℕ) (e : ℕ) (r : Result ℕ ℕ) → IsStrictlySortedBy nat_cmp xs → IsSearchInRange r (length xs) → IsBinarySearchResult (λ y. nat_cmp y e) xs r → is_ok r ≡ has e xs
has-searched xs e (Ok i) sorted within there = sym (list_any_at (λ y. y == e) xs i 0 within (eq-eqb _ _ (ranked (slice_index_or xs i 0) e Equal (sym (there 0)))))
has-searched xs e (Err i) sorted within place = sym (none_beside nat_cmp nat_cmp_total (λ y. y == e) e xs i (same e) (searched_place nat_cmp nat_cmp_total xs e i sorted place))

-- an event that is there may be put in again
pub has-again : (xs : List ℕ) (e other : ℕ) → has e xs ≡ true → has other xs ≡ ((e == other) || has other xs)
has-again xs e other there =
    elim (e == other) as (λ b. (e == other) ≡ b → has other xs ≡ (b || has other xs)) [
      | true ↦ λ yes. subst (λ z. has z xs ≡ true) (eqb-true e other yes) there
      | false ↦ λ no. refl
    ] refl

pub sorted-place : (xs : List ℕ) (e i : ℕ) → IsStrictlySortedBy nat_cmp xs → i ≤ length xs → IsBinarySearchResult (λ y. nat_cmp y e) xs (Err i) → IsStrictlySortedBy nat_cmp (insert xs i e)
sorted-place xs e i sorted le place = sorted-insert nat_cmp nat_cmp_total xs i e sorted le (searched_place nat_cmp nat_cmp_total xs e i sorted place)

pub has-removed : (xs : List ℕ) (e i other : ℕ) → IsStrictlySortedBy nat_cmp xs → i < length xs → HoldsAt (λ y. nat_cmp y e ≡ Equal) xs i → has other (remove xs i) ≡ (has other xs && not (e == other))
has-removed xs e i other sorted within here =
    elim (e == other) as (λ b. (e == other) ≡ b → has other (remove xs i) ≡ (has other xs && not b)) [
      | true ↦ λ yes. gone (eqb-true e other yes)
      | false ↦ λ no. any-remove (λ y. y == other) xs i (λ d below. subst (λ z. (z == other) ≡ false) (sym (ranked (slice_index_or xs i d) e Equal (sym (here d)))) no) ∙ and_true (has other xs)
    ] refl
  where
    and_true : (b : Bool) → b ≡ (b && true)
    and_true true = refl
    and_true false = refl

    and_false : (b : Bool) → false ≡ (b && false)
    and_false true = refl
    and_false false = refl

    gone : e ≡ other → has other (remove xs i) ≡ (has other xs && false)
    gone is = none_left nat_cmp nat_cmp_total (λ y. y == other) e xs i (λ y equal. subst (λ z. nat_cmp y z ≡ Equal) (sym is) (same other y equal)) sorted within here ∙ and_false (has other xs)

-- an event that isn't there
pub not_there : (xs : List ℕ) (e other : ℕ) → has e xs ≡ false → has other xs ≡ (has other xs && not (e == other))
not_there xs e other missing =
    elim (e == other) as (λ b. (e == other) ≡ b → has other xs ≡ (has other xs && not b)) [
      | true ↦ λ yes. let out : has other xs ≡ false = subst (λ z. has z xs ≡ false) (eqb-true e other yes) missing in rw out refl
      | false ↦ λ _. and_true (has other xs)
    ] refl
  where
    and_true : (b : Bool) → b ≡ (b && true)
    and_true true = refl
    and_true false = refl

-- a search in one list is a search in the other
pub search_moved : (xs ys : List ℕ) (e : ℕ) (r : Result ℕ ℕ) → xs ≡ ys → IsBinarySearchResult (λ y. nat_cmp y e) xs r → IsBinarySearchResult (λ y. nat_cmp y e) ys r
search_moved xs ys e r is = subst (λ zs. IsBinarySearchResult (λ y. nat_cmp y e) zs r) is

pub range_moved : (xs ys : List ℕ) (r : Result ℕ ℕ) → xs ≡ ys → IsSearchInRange r (length xs) → IsSearchInRange r (length ys)
range_moved xs ys r is = subst (λ zs. IsSearchInRange r (length zs)) is

-- the first event of a sorted list is below the others
below_rest : (x : ℕ) (xs : List ℕ) (z : ℕ) → AllByRecursion (λ y. nat_cmp x y ≡ Less) xs → has z xs ≡ true → x < z
below_rest x [] z all there = absurd (cc)
below_rest x (y ∷ ys) z all there =
    elim (y == z) as (λ b. (y == z) ≡ b → (b || has z ys) ≡ true → x < z) [
      | true ↦ λ here _. subst (λ w. x < w) (eqb-true y z here) (ranked x y Less (sym all.0))
      | false ↦ λ _ rest. below_rest x ys z all.1 rest
    ] refl there

apart : (x z : ℕ) → x < z → (x == z) ≡ false
apart x z less = elim (x == z) as (λ b. (x == z) ≡ b → b ≡ false) [ true ↦ λ equal. let is : x ≡ z = eqb-true x z equal in absurd (omega arith) | false ↦ λ _. refl ] refl

-- where an event stands in a list and isn't the first one, it is in the rest
in_rest : (y z : ℕ) (ys : List ℕ) → (y == z) ≡ false → has z (y ∷ ys) ≡ true → has z ys ≡ true
in_rest y z ys other there = let drop_first : ((y == z) || has z ys) ≡ true = there in rw other at drop_first

-- a part is no longer than the whole
pub length-part : (xs ys : List ℕ) → IsStrictlySortedBy nat_cmp xs → IsStrictlySortedBy nat_cmp ys → ((z : ℕ) → has z xs ≡ true → has z ys ≡ true) → length xs ≤ length ys
unfolding IsStrictlySortedBy
length-part [] ys left right within = omega arith
length-part (x ∷ xs) [] left right within = let none : false ≡ true = within x (rw (eq-eqb x x refl) refl) in absurd (cc)
length-part (x ∷ xs) (y ∷ ys) left right within =
    elim (y == x) as (λ b. (y == x) ≡ b → suc (length xs) ≤ suc (length ys)) [
      | true ↦ λ equal. let is : y ≡ x = eqb-true y x equal in
          let shorter = length-part xs ys left.1 right.1 (λ z there. in_rest y z ys (rw is (apart x z (below_rest x xs z left.0 there))) (within z (more x z xs there))) in omega arith
      | false ↦ λ other.
          let head : has x ys ≡ true = in_rest y x ys other (within x (rw (eq-eqb x x refl) refl)) in
          let less : y < x = below_rest y ys x right.0 head in
          let shorter = length-part (x ∷ xs) ys left right.1 (λ z there. in_rest y z ys (apart y z (no_less x y z xs less left.0 there)) (within z there)) in omega arith
    ] refl
  where
    more : (x z : ℕ) (xs : List ℕ) → has z xs ≡ true → ((x == z) || has z xs) ≡ true
    more x z xs there = elim (x == z) as (λ b. (b || has z xs) ≡ true) [ true ↦ refl | false ↦ there ]

    no_less : (x y z : ℕ) (xs : List ℕ) → y < x → AllByRecursion (λ w. nat_cmp x w ≡ Less) xs → has z (x ∷ xs) ≡ true → y < z
    no_less x y z xs less all there =
        elim (x == z) as (λ b. (x == z) ≡ b → (b || has z xs) ≡ true → y < z) [
          | true ↦ λ equal _. let is : x ≡ z = eqb-true x z equal in omega arith
          | false ↦ λ _ rest. let above = below_rest x xs z all rest in omega arith
        ] refl there

-- and shorter where it lacks an event of the whole
pub shorter-part : (xs ys : List ℕ) (e : ℕ) → IsStrictlySortedBy nat_cmp xs → IsStrictlySortedBy nat_cmp ys → ((z : ℕ) → has z xs ≡ true → has z ys ≡ true) → has e xs ≡ false → has e ys ≡ true → length xs < length ys
shorter-part xs ys e left right within out there =
    let (k, x, below, is, passes) = Any-from_list_any (λ y. y == e) ys there in
    let here : HoldsAt (λ y. nat_cmp y e ≡ Equal) ys k = λ d. same e (slice_index_or ys k d) (subst (λ w. (w == e) ≡ true) (sym is ∙ get_or_default ys k x d below) passes) in
    let fits = length-part xs (remove ys k) left (sorted-remove nat_cmp nat_cmp_total ys k right)
    (λ z in_part. rw (has-removed ys e k z right below here, within z in_part, differs e z xs out in_part) refl) in
    let gone = length-remove ys k below in
    omega arith
  where
    differs : (e z : ℕ) (xs : List ℕ) → has e xs ≡ false → has z xs ≡ true → (e == z) ≡ false
    differs e z xs out there = elim (e == z) as (λ b. (e == z) ≡ b → b ≡ false) [ true ↦ λ equal. let both : has z xs ≡ false = subst (λ w. has w xs ≡ false) (eqb-true e z equal) out in absurd (cc) | false ↦ λ _. refl ] refl

all_sublist : (P : ℕ → Type 0) (xs ys : List ℕ) → IsSublist xs ys → AllByRecursion P ys → AllByRecursion P xs
all_sublist P [] ys part all = tt
all_sublist P (x ∷ xs) [] part all = absurd part
all_sublist P (x ∷ xs) (y ∷ ys) (inl (is, part)) all = (subst P (sym is) all.0, all_sublist P xs ys part all.1)
all_sublist P (x ∷ xs) (y ∷ ys) (inr part) all = all_sublist P (x ∷ xs) ys part all.1

sorted-sublist : (xs ys : List ℕ) → IsSublist xs ys → IsStrictlySortedBy nat_cmp ys → IsStrictlySortedBy nat_cmp xs
unfolding IsStrictlySortedBy
sorted-sublist [] ys part sorted = tt
sorted-sublist (x ∷ xs) [] part sorted = absurd part
sorted-sublist (x ∷ xs) (y ∷ ys) (inl (is, part)) sorted = (subst (λ z. AllByRecursion (λ w. nat_cmp z w ≡ Less) xs) (sym is) (all_sublist (λ w. nat_cmp y w ≡ Less) xs ys part sorted.0), sorted-sublist xs ys part sorted.1)
sorted-sublist (x ∷ xs) (y ∷ ys) (inr part) sorted = sorted-sublist (x ∷ xs) ys part sorted.1

-- some of rising events rise
pub rising-sublist : (xs ys : List ℕ) → IsSublist xs ys → IsStrictlyIncreasing ys → IsStrictlyIncreasing xs
rising-sublist xs ys part rising = IsStrictlyIncreasing-from_sorted xs (sorted-sublist xs ys part (sorted_from_strictly_increasing ys rising))

differs : (x y : ℕ) → nat_cmp x y ≡ Less → (x == y) ≡ false
differs x y less = elim (x == y) as (λ b. (x == y) ≡ b → b ≡ false) [
  | true ↦ λ equal. absurd (let tie : nat_cmp x y ≡ Equal = same y x equal in cc)
  | false ↦ λ _. refl
] refl

differ_all : (x : ℕ) (xs : List ℕ) → AllByRecursion (λ y. nat_cmp x y ≡ Less) xs → AllByRecursion (λ y. (x == y) ≡ false) xs
differ_all x [] all = tt
differ_all x (y ∷ ys) all = (differs x y all.0, differ_all x ys all.1)

distinct-sorted : (xs : List ℕ) → IsStrictlySortedBy nat_cmp xs → IsDistinct (λ a b. a == b) xs
unfolding IsStrictlySortedBy IsDistinct
distinct-sorted [] sorted = tt
distinct-sorted (x ∷ xs) sorted = (differ_all x xs sorted.0, distinct-sorted xs sorted.1)

-- rising events are distinct
pub rising-distinct : (xs : List ℕ) → IsStrictlyIncreasing xs → IsDistinct (λ a b. a == b) xs
rising-distinct xs rising = distinct-sorted xs (sorted_from_strictly_increasing xs rising)

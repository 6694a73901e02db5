-- Lists of which each element went on in its place.
use Rattle.std.proofs.Common.{◌≡◌, ℕ, zero, suc, List, [], ◌∷◌, ◌++◌, Some, map, slice_get, refl, subst, arith}
use Rattle.std.proofs.lemmas.Option.{same_Some, none-some}
use Rattle.port_sched.specs.Jobs.{WentEach}

module _ {A : Type 0} {went : A → A → Type 0} where
  pub went_nil : WentEach went [] []
  went_nil = record { count = refl; each = λ n x y here there. absurd (none-some x here) }

  one_more : (x y : A) (xs ys : List A) → went x y → WentEach went xs ys → (n : ℕ) (a b : A) → slice_get (x ∷ xs) n ≡ Some a → slice_get (y ∷ ys) n ≡ Some b → went a b
  one_more x y xs ys one rest zero a b here there = subst (λ c. went c b) (same_Some x a here) (subst (went x) (same_Some y b there) one)
  one_more x y xs ys one rest (suc n) a b here there = rest.each n a b here there

  pub went_cons : (x y : A) (xs ys : List A) → went x y → WentEach went xs ys → WentEach went (x ∷ xs) (y ∷ ys)
  went_cons x y xs ys one rest = record { count = (let e = rest.count in omega arith); each = one_more x y xs ys one rest }

  pub went_head : (x y : A) (xs ys : List A) → WentEach went (x ∷ xs) (y ∷ ys) → went x y
  went_head x y xs ys all = all.each 0 x y refl refl

  pub went_tail : (x y : A) (xs ys : List A) → WentEach went (x ∷ xs) (y ∷ ys) → WentEach went xs ys
  went_tail x y xs ys all = record { count = (let e = all.count in omega arith); each = λ n a b here there. all.each (suc n) a b here there }

  pub went_append : (xs ys us vs : List A) → WentEach went xs ys → WentEach went us vs → WentEach went (xs ++ us) (ys ++ vs)
  went_append [] [] us vs first second = second
  went_append [] (y ∷ ys) us vs first second = absurd (let e = first.count in omega arith)
  went_append (x ∷ xs) [] us vs first second = absurd (let e = first.count in omega arith)
  went_append (x ∷ xs) (y ∷ ys) us vs first second = went_cons x y (xs ++ us) (ys ++ vs) (went_head x y xs ys first) (went_append xs ys us vs (went_tail x y xs ys first) second)

pub went_map : {A C : Type 0} {went : A → A → Type 0} (on : C → C → Type 0) (f : A → C) → ((x y : A) → went x y → on (f x) (f y)) → (xs ys : List A) → WentEach went xs ys → WentEach on (map f xs) (map f ys)
went_map on f one [] [] all = went_nil
went_map on f one [] (y ∷ ys) all = absurd (let e = all.count in omega arith)
went_map on f one (x ∷ xs) [] all = absurd (let e = all.count in omega arith)
went_map on f one (x ∷ xs) (y ∷ ys) all = went_cons (f x) (f y) (map f xs) (map f ys) (one x y (went_head x y xs ys all)) (went_map on f one xs ys (went_tail x y xs ys all))

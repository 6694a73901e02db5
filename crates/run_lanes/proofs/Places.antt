-- Lists that are walked together, from their fronts.
use Rattle.std.proofs.Common.{◌≡◌, ◌<◌, ◌≤◌, ◌+◌, ℕ, List, [], ◌∷◌, ◌++◌, length, map, drop, get_or, sym, refl, ap, ◌∙◌, subst, arith, ⊎_elim, length-drop}
use Rattle.std.proofs.lemmas.Bool.{cases_lt}
use Rattle.std.proofs.lemmas.List.{drop_more, get_or_append_left, get_or_default, get_or_push, get_or-map, length_push}

-- this is what is left of the list from place n on, and so many
pub record IsRest {X : Type 0} (n : ℕ) (all rest : List X) (len : ℕ) : Type 0 where
  pub items : rest ≡ drop n all
  pub many : len ≡ length rest

-- P holds of each place
pub record ArePlaced {Y : Type 0} (P : ℕ → Y → Type 0) (n : ℕ) (all : List Y) : Type 0 where
  pub many : length all ≡ n
  pub each : (k : ℕ) (d : Y) → k < length all → P k (get_or all k d)

pub placed_none : {Y : Type 0} (P : ℕ → Y → Type 0) → ArePlaced P 0 []
placed_none P = record { many = refl; each = λ k d below. absurd (omega arith) }

pub placed_more : {Y : Type 0} (P : ℕ → Y → Type 0) (n : ℕ) (all all' : List Y) (y : Y) → all' ≡ all ++ y ∷ [] → ArePlaced P n all → P n y → ArePlaced P (n + 1) all'
placed_more P n all all' y is before now = subst (ArePlaced P (n + 1)) (sym is) (record {
  many = length_push all y ∙ ap (λ m. m + 1) before.many;
  each = λ k d below. ⊎_elim
      (λ (less : k < length all). subst (P k) (sym (get_or_append_left all (y ∷ []) d k less)) (before.each k d less))
      (λ (last : length all ≤ k).
      let at : length all ≡ k = (let m = length_push all y in omega arith) in
      subst (P k) (sym (get_or_push all y d k at)) (subst (λ m. P m y) (sym before.many ∙ at) now))
      (cases_lt k (length all));
})

module _ {X : Type 0} where
  pub rest_all : (all : List X) (len : ℕ) → len ≡ length all → IsRest 0 all all len
  rest_all all len many = record { items = refl; many = many }

  -- one is left while the place is in the list
  pub rest_some : (n : ℕ) (all rest : List X) (len : ℕ) → IsRest n all rest len → n < length all → 0 < len
  rest_some n all rest len is within = let m = is.many in let e = ap length is.items in let l = length-drop n all in omega arith

  pub rest_more : (n : ℕ) (all rest rest' : List X) (x : X) (len len' : ℕ) → n < length all → IsRest n all rest len → rest ≡ x ∷ rest' → len' + 1 ≡ len → IsRest (n + 1) all rest' len'
  rest_more n all rest rest' x len len' within is step one =
      let more : x ∷ rest' ≡ get_or all n x ∷ drop (n + 1) all = sym step ∙ is.items ∙ drop_more all n x within in
      record { items = cc; many = (let m = is.many in let l = ap length step in omega arith) }

  -- and it is the one at this place
  pub rest_first : (n : ℕ) (all rest rest' : List X) (x : X) (len : ℕ) → n < length all → IsRest n all rest len → rest ≡ x ∷ rest' → (d : X) → x ≡ get_or all n d
  rest_first n all rest rest' x len within is step d =
      let more : x ∷ rest' ≡ get_or all n x ∷ drop (n + 1) all = sym step ∙ is.items ∙ drop_more all n x within in
      let first : x ≡ get_or all n x = cc in
      first ∙ get_or_default all n x d within

-- the same of a list of rows
pub rest_row : {V X : Type 0} (items : V → List X) (n : ℕ) (all rest rest' : List V) (v : V) (len : ℕ) → n < length all → IsRest n all rest len → rest ≡ v ∷ rest' → (d : List X) → items v ≡ get_or (map items all) n d
rest_row items n all rest rest' v len within is step d = ap items (rest_first n all rest rest' v len within is step v) ∙ sym (get_or-map items all n v d within)

-- there is one left only where the place is in the list
pub rest_within : {X : Type 0} (n : ℕ) (all rest rest' : List X) (x : X) (len : ℕ) → IsRest n all rest len → rest ≡ x ∷ rest' → n < length all
rest_within n all rest rest' x len is step = let e = ap length is.items in let s = ap length step in let l = length-drop n all in omega arith

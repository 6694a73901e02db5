-- A list that is walked from its front.
use Rattle.std.proofs.Common.{◌≡◌, ◌<◌, ◌+◌, ℕ, List, ◌∷◌, length, drop, get_or, sym, ap, ◌∙◌, arith, length-drop}
use Rattle.std.proofs.lemmas.List.{drop_more, get_or_default}

module _ {X : Type 0} where
  -- this is what is left of the list from place n on, and so many
  pub record IsRest (n : ℕ) (all rest : List X) (len : ℕ) : Type 0 where
    pub items : rest ≡ drop n all
    pub many : len ≡ length rest

  -- there is one left only where the place is in the list
  pub rest-within : (n : ℕ) (all rest rest' : List X) (x : X) (len : ℕ) → IsRest n all rest len → rest ≡ x ∷ rest' → n < length all
  rest-within n all rest rest' x len is step = let e = ap length is.items in let s = ap length step in let l = length-drop n all in omega arith

  pub rest-more : (n : ℕ) (all rest rest' : List X) (x : X) (len len' : ℕ) → n < length all → IsRest n all rest len → rest ≡ x ∷ rest' → len' + 1 ≡ len → IsRest (n + 1) all rest' len'
  rest-more n all rest rest' x len len' within is step one =
      let more : x ∷ rest' ≡ get_or all n x ∷ drop (n + 1) all = sym step ∙ is.items ∙ drop_more all n x within in
      record { items = cc; many = (let m = is.many in let l = ap length step in omega arith) }

  -- and it is the one at this place
  pub rest-first : (n : ℕ) (all rest rest' : List X) (x : X) (len : ℕ) → n < length all → IsRest n all rest len → rest ≡ x ∷ rest' → (d : X) → x ≡ get_or all n d
  rest-first n all rest rest' x len within is step d =
      let more : x ∷ rest' ≡ get_or all n x ∷ drop (n + 1) all = sym step ∙ is.items ∙ drop_more all n x within in
      let first : x ≡ get_or all n x = cc in
      first ∙ get_or_default all n x d within

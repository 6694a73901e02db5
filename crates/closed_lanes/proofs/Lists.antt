-- Lists that one, and then others, follow; and lists that are chosen place by place.
use Rattle.std.proofs.Common.{◌≡◌, ◌<◌, ◌≤◌, ◌+◌, ◌-◌, ℕ, zero, suc, List, [], ◌∷◌, ◌++◌, length, get_or, refl, sym, ap, ◌∙◌, subst, arith, length-append, ⊎_elim}
use Rattle.std.proofs.lemmas.Bool.{cases_lt}
use Rattle.std.proofs.lemmas.List.{get_or_append_left, get_or-append_right, get_or_default, get_or_push, length_push}
use Rattle.run_lanes.proofs.Places.{ArePlaced, placed_more, placed_none}

module _ {X : Type 0} where
  -- some item of a list that has a place
  pub some-of : (xs : List X) (k : ℕ) → k < length xs → X
  some-of [] k below = absurd (omega arith)
  some-of (x ∷ xs) k below = x

  -- what stands in lists with one between
  pub at-front : (front : List X) (one : X) (back : List X) (n : ℕ) (d e : X) → n < length front → get_or ((front ++ one ∷ []) ++ back) n d ≡ get_or front n e
  at-front front one back n d e below =
      let many = length_push front one in
      get_or_append_left (front ++ one ∷ []) back d n (omega (arith, many, below)) ∙ get_or_append_left front (one ∷ []) d n below ∙ get_or_default front n d e below

  pub at-middle : (front : List X) (one : X) (back : List X) (d : X) → get_or ((front ++ one ∷ []) ++ back) (length front) d ≡ one
  at-middle front one back d =
      let many = length_push front one in
      get_or_append_left (front ++ one ∷ []) back d (length front) (omega (arith, many)) ∙ get_or_push front one d (length front) refl

  pub at-back : (front : List X) (one : X) (back : List X) (n : ℕ) (d e : X) → n < length back → get_or ((front ++ one ∷ []) ++ back) (length front + 1 + n) d ≡ get_or back n e
  at-back front one back n d e below =
      let same : length front + 1 + n - (length front + 1) ≡ n = omega arith in
      get_or-append_right (front ++ one ∷ []) back (length front + 1) (length front + 1 + n) d (length_push front one) (omega arith)
      ∙ ap (λ m. get_or back m d) same ∙ get_or_default back n d e below

  pub long : (front : List X) (one : X) (back : List X) → length ((front ++ one ∷ []) ++ back) ≡ length front + 1 + length back
  long front one back = length-append (front ++ one ∷ []) back ∙ ap (λ m. m + length back) (length_push front one)

  -- what holds of each part holds at each place
  pub at-each : (P : ℕ → X → Type 0) (front : List X) (one : X) (back : List X) → ((n : ℕ) (d : X) → n < length front → P n (get_or front n d)) → P (length front) one
      → ((n : ℕ) (d : X) → n < length back → P (length front + 1 + n) (get_or back n d))
      → (n : ℕ) (d : X) → n < length ((front ++ one ∷ []) ++ back) → P n (get_or ((front ++ one ∷ []) ++ back) n d)
  at-each P front one back first middle last n d below = ⊎_elim
      (λ (less : n < length front). subst (P n) (sym (at-front front one back n d d less)) (first n d less))
      (λ (more : length front ≤ n). ⊎_elim
      (λ (after : length front < n).
      let rest = n - (length front + 1) in
      let many = long front one back in
      let is : length front + 1 + rest ≡ n = omega (arith, after) in
      let within : rest < length back = omega (arith, many, below, after) in
      subst (λ m. P m (get_or ((front ++ one ∷ []) ++ back) m d)) is (subst (P (length front + 1 + rest)) (sym (at-back front one back rest d d within)) (last rest d within)))
      (λ (here : n ≤ length front).
      let is : length front ≡ n = omega (arith, more, here) in
      subst (λ m. P m (get_or ((front ++ one ∷ []) ++ back) m d)) is (subst (P (length front)) (sym (at-middle front one back d)) middle))
      (cases_lt (length front) n))
      (cases_lt n (length front))

-- so many items, each with what holds of its place
pub record Chosen {X : Type 0} (P : ℕ → X → Type 0) (many : ℕ) : Type 0 where
  pub all : List X
  pub placed : ArePlaced P many all

pub choose : {X : Type 0} (P : ℕ → X → Type 0) (many : ℕ) → ((n : ℕ) → n < many → (x : X) × P n x) → Chosen P many
choose P zero given = record { all = []; placed = placed_none P }
choose P (suc many) given =
    let before = choose P many (λ n below. given n (omega (arith, below))) in
    let now = given many (omega arith) in
    let one : many + 1 ≡ suc many = omega arith in
    record {
      all = before.all ++ now.0 ∷ [];
      placed = subst (λ m. ArePlaced P m (before.all ++ now.0 ∷ [])) one (placed_more P many before.all (before.all ++ now.0 ∷ []) now.0 refl before.placed now.1);
    }

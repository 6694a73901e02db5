-- How many elements pass a test before a place.
use Rattle.std.proofs.Common.{inl, inr, arith, ◌≡◌, ℕ, zero, suc, ◌+◌, ◌<◌, ◌≤◌, ◌⊎◌, List, length, take, Bool, true, cond, sym, ap, ◌∙◌}
use Rattle.std.specs.Prelude.{count_by, slice_index_or}
use Rattle.std.proofs.lemmas.Bool.{cases_Bool, cases_lt}
use Rattle.std.proofs.lemmas.List.{take-take}
use Rattle.std.proofs.lemmas.List.Sums.{count_by_more_yes, count_by_more_no, sum_by-take-le}

module _ {A : Type 0} (test : A → Bool) (xs : List A) where
  -- one that passes is counted behind its place
  pub count-rises : (a b : ℕ) (d : A) → a < b → a < length xs → test (slice_index_or xs a d) ≡ true → count_by test (take a xs) < count_by test (take b xs)
  count-rises a b d less within passes =
      let more = count_by_more_yes test xs a d within passes in
      let shorter : a + 1 ≤ b = omega arith in
      let same : take (a + 1) (take b xs) ≡ take (a + 1) xs = take-take (a + 1) b xs shorter in
      let rest = rw same at (sum_by-take-le (λ x. cond (test x) 1 0) (take b xs) (a + 1)) in
      omega (arith, more, rest)

  -- one that passes is counted in the list
  pub count-all : (a : ℕ) (d : A) → a < length xs → test (slice_index_or xs a d) ≡ true → count_by test (take a xs) < count_by test xs
  count-all a d within passes =
      let more = count_by_more_yes test xs a d within passes in
      let rest = sum_by-take-le (λ x. cond (test x) 1 0) xs (a + 1) in
      omega (arith, more, rest)

  -- for each number below the count there is one that passes, behind so many others
  pub one-behind : (b m : ℕ) (d : A) → b ≤ length xs → m < count_by test (take b xs)
      → (a : ℕ) × (a < b) × (test (slice_index_or xs a d) ≡ true) × (count_by test (take a xs) ≡ m)
  one-behind zero m d within few = absurd (omega arith)
  one-behind (suc b) m d within few = elim (cases_Bool (test (slice_index_or xs b d))) [
    | inl passes ↦
        let more = count_by_more_yes test xs b d (omega arith) passes in
        let few' : m < count_by test (take b xs) + 1 = rw (sym more ∙ ap (λ n. count_by test (take n xs)) (next b)) few in
        elim (least m (count_by test (take b xs)) few') [
          | inl less ↦ wider b m d (one-behind b m d (omega arith) less)
          | inr same ↦ (b, omega arith, passes, sym same)
        ]
    | inr fails ↦
        let more = count_by_more_no test xs b d (omega arith) fails in
        wider b m d (one-behind b m d (omega arith) (rw (sym (ap (λ n. count_by test (take n xs)) (next b)) ∙ more) at few))
  ]
    where
      next : (b : ℕ) → b + 1 ≡ suc b
      next b = omega arith

      least : (m n : ℕ) → m < n + 1 → (m < n) ⊎ (m ≡ n)
      least m n h = elim (cases_lt m n) [ inl l ↦ inl l | inr g ↦ inr (omega arith) ]

      wider : (b m : ℕ) (d : A) → (a : ℕ) × (a < b) × (test (slice_index_or xs a d) ≡ true) × (count_by test (take a xs) ≡ m)
          → (a : ℕ) × (a < suc b) × (test (slice_index_or xs a d) ≡ true) × (count_by test (take a xs) ≡ m)
      wider b m d (a, l, p, e) = (a, omega arith, p, e)

  -- two that pass behind as many others are one
  pub same-place : (a b : ℕ) (d : A) → a < length xs → b < length xs → test (slice_index_or xs a d) ≡ true → test (slice_index_or xs b d) ≡ true
      → count_by test (take a xs) ≡ count_by test (take b xs) → a ≡ b
  same-place a b d in_a in_b pass_a pass_b same = elim (cases_lt a b) [
    | inl l ↦ let rises = count-rises a b d l in_a pass_a in absurd (omega (arith, same, rises))
    | inr g ↦ elim (cases_lt b a) [
      | inl l ↦ let rises = count-rises b a d l in_b pass_b in absurd (omega (arith, same, rises))
      | inr h ↦ omega arith
    ]
  ]

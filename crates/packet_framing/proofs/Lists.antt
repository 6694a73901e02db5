-- Lists that are cut out of two lists, joined.
use Rattle.std.proofs.Common.{◌≡◌, ◌+◌, ◌-◌, ◌≤◌, ℕ, min, List, ◌++◌, length, take, drop, sym, ◌∙◌, ap, inl, inr, arith, length-drop}
use Rattle.std.specs.Prelude.{slice_range}
use Rattle.std.proofs.lemmas.Bool.{cases_lt}
use Rattle.std.proofs.lemmas.List.{take-append-le, drop-append-le, take_all, drop_all, append-nil, take_min, drop_min}
use Rattle.std.proofs.Math.Seq.{drop-append-add, take-append-add}

pub drop-append : (n : ℕ) (s t : List ℕ) → drop n (s ++ t) ≡ drop n s ++ drop (n - length s) t
drop-append n s t =
    elim (cases_lt n (length s)) [
      | inl short ↦
          let none : n - length s ≡ 0 = omega arith in
          let within : n ≤ length s = omega arith in
          drop-append-le n s t within ∙ ap (λ m. drop n s ++ drop m t) (sym none)
      | inr past ↦
          let split : n ≡ length s + (n - length s) = omega arith in
          ap (λ m. drop m (s ++ t)) split ∙ drop-append-add s t (n - length s)
          ∙ ap (λ front. front ++ drop (n - length s) t) (sym (drop_all n s past))
    ]

pub take-append : (n : ℕ) (s t : List ℕ) → take n (s ++ t) ≡ take n s ++ take (n - length s) t
take-append n s t =
    elim (cases_lt n (length s)) [
      | inl short ↦
          let none : n - length s ≡ 0 = omega arith in
          let within : n ≤ length s = omega arith in
          take-append-le n s t within ∙ sym (append-nil (take n s)) ∙ ap (λ m. take n s ++ take m t) (sym none)
      | inr past ↦
          let split : n ≡ length s + (n - length s) = omega arith in
          ap (λ m. take m (s ++ t)) split ∙ take-append-add s t (n - length s)
          ∙ ap (λ front. front ++ take (n - length s) t) (sym (take_all n s past))
    ]

-- bytes from a place to a place of two lists: those of the first, then those of the second
pub range-append : (s t : List ℕ) (from to from' to' : ℕ) → from ≤ to → to ≤ length s + length t →
    from' ≡ min from (length s) → to' ≡ min to (length s) →
    slice_range (s ++ t) from to ≡ slice_range s from' to' ++ slice_range t (from - from') (to - to')
range-append s t from to from' to' ordered within is is' =
    let front : take (to - from) (drop from s) ≡ slice_range s from' to' =
    let counts : min (to - from) (length (drop from s)) ≡ to' - from' = omega (arith, length-drop from s) in
    let starts : min from (length s) ≡ from' = sym is in
    sym (take_min (to - from) (drop from s)) ∙ ap (λ n. take n (drop from s)) counts
    ∙ ap (λ xs. take (to' - from') xs) (sym (drop_min from s) ∙ ap (λ n. drop n s) starts) in
    let back : take (to - from - length (drop from s)) (drop (from - length s) t) ≡ slice_range t (from - from') (to - to') =
    let start : from - length s ≡ from - from' = omega arith in
    let count : to - from - length (drop from s) ≡ (to - to') - (from - from') = omega (arith, length-drop from s) in
    ap (λ n. take n (drop (from - length s) t)) count
    ∙ ap (λ n. take ((to - to') - (from - from')) (drop n t)) start in
    ap (λ xs. take (to - from) xs) (drop-append from s t)
    ∙ take-append (to - from) (drop from s) (drop (from - length s) t)
    ∙ ap (λ xs. xs ++ take (to - from - length (drop from s)) (drop (from - length s) t)) front
    ∙ ap (λ xs. slice_range s from' to' ++ xs) back

-- a range behind the first list is one of the second
pub range-past : (s t : List ℕ) (from to : ℕ) → length s ≤ from → from ≤ to →
    slice_range (s ++ t) from to ≡ slice_range t (from - length s) (to - length s)
range-past s t from to past ordered =
    let front : drop from (s ++ t) ≡ drop (from - length s) t =
    drop-append from s t ∙ ap (λ xs. xs ++ drop (from - length s) t) (drop_all from s past) in
    let counts : to - from ≡ (to - length s) - (from - length s) = omega arith in
    ap (take (to - from)) front ∙ ap (λ n. take n (drop (from - length s) t)) counts

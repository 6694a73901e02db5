-- Lemmas on segments and on the bytes that they join to.
use Rattle.std.proofs.Common.{◌≡◌, ◌+◌, ◌-◌, ◌<◌, ◌≤◌, ◌⊎◌, ℕ, List, [], ◌∷◌, ◌++◌, length, take, drop, eqb, leb, refl, sym, ◌∙◌, ap, inl, inr, arith, append-nil, length-append}
use Rattle.std.proofs.lemmas.Bool.{cond-true, cond-false, ne_eqb, le-leb, lt-leb, cases_eq, cases_lt}
use Rattle.std.proofs.lemmas.List.{take-append-drop, take-append-le, drop-append-le, drop_all, take_all}
use Rattle.std.proofs.lemmas.List.Folds.{concat-append}
use Rattle.std.proofs.Math.Seq.{drop-append-add, take-append-add}
use Rattle.std.specs.List.{concat}
use Rattle.io_vector.specs.Segments.{segments_within, segments_past}

-- one more segment at the end
pub concat-push : (ss : List (List ℕ)) (s : List ℕ) → concat (ss ++ s ∷ []) ≡ concat ss ++ s
concat-push ss s = concat-append ss (s ∷ []) ∙ ap (λ t. concat ss ++ t) (append-nil s)

pub length-concat-push : (ss : List (List ℕ)) (s : List ℕ) →
    length (concat (ss ++ s ∷ [])) ≡ length (concat ss) + length s
length-concat-push ss s = ap length (concat-push ss s) ∙ length-append (concat ss) s

pub length-concat-append : (ss ts : List (List ℕ)) →
    length (concat (ss ++ ts)) ≡ length (concat ss) + length (concat ts)
length-concat-append ss ts = ap length (concat-append ss ts) ∙ length-append (concat ss) (concat ts)

-- one segment
pub concat-one : (s : List ℕ) → concat (s ∷ []) ≡ s
concat-one s = append-nil s

-- `segments_past`, case by case

pub past-zero : (ss : List (List ℕ)) → segments_past 0 ss ≡ ss
past-zero [] = refl
past-zero (s ∷ ss) = refl

pub past_whole : (n : ℕ) (s : List ℕ) (ss : List (List ℕ)) → 0 < n → length s ≤ n →
    segments_past n (s ∷ ss) ≡ segments_past (n - length s) ss
past_whole n s ss some fits =
    cond-false (eqb n 0) _ _ (ne_eqb n 0 (λ none. omega arith)) ∙ cond-true (leb (length s) n) _ _ (le-leb (length s) n fits)

pub past_cut : (n : ℕ) (s : List ℕ) (ss : List (List ℕ)) → 0 < n → n < length s →
    segments_past n (s ∷ ss) ≡ drop n s ∷ ss
past_cut n s ss some short =
    cond-false (eqb n 0) _ _ (ne_eqb n 0 (λ none. omega arith)) ∙ cond-false (leb (length s) n) _ _ (lt-leb (length s) n short)

-- `segments_within`, case by case

pub within-zero : (ss : List (List ℕ)) → segments_within 0 ss ≡ []
within-zero [] = refl
within-zero (s ∷ ss) = refl

pub within_whole : (n : ℕ) (s : List ℕ) (ss : List (List ℕ)) → 0 < n → length s ≤ n →
    segments_within n (s ∷ ss) ≡ s ∷ segments_within (n - length s) ss
within_whole n s ss some fits =
    cond-false (eqb n 0) _ _ (ne_eqb n 0 (λ none. omega arith)) ∙ cond-true (leb (length s) n) _ _ (le-leb (length s) n fits)

pub within_cut : (n : ℕ) (s : List ℕ) (ss : List (List ℕ)) → 0 < n → n < length s →
    segments_within n (s ∷ ss) ≡ take n s ∷ []
within_cut n s ss some short =
    cond-false (eqb n 0) _ _ (ne_eqb n 0 (λ none. omega arith)) ∙ cond-false (leb (length s) n) _ _ (lt-leb (length s) n short)

-- a count of bytes is none, or takes a segment whole, or cuts it
cases_count : (n : ℕ) (s : List ℕ) → (n ≡ 0) ⊎ (((0 < n) × (length s ≤ n)) ⊎ ((0 < n) × (n < length s)))
cases_count n s =
    elim (cases_eq n 0) [
      | inl none ↦ inl none
      | inr some ↦
          elim (cases_lt n (length s)) [
            | inl short ↦ inr (inr (grind arith, short))
            | inr fits ↦ inr (inl (grind arith, fits))
          ]
    ]

drop_past : (n : ℕ) (s t : List ℕ) → length s ≤ n → drop n (s ++ t) ≡ drop (n - length s) t
drop_past n s t fits =
    let split : n ≡ length s + (n - length s) = omega arith in
    ap (λ m. drop m (s ++ t)) split ∙ drop-append-add s t (n - length s)

take_past : (n : ℕ) (s t : List ℕ) → length s ≤ n → take n (s ++ t) ≡ s ++ take (n - length s) t
take_past n s t fits =
    let split : n ≡ length s + (n - length s) = omega arith in
    ap (λ m. take m (s ++ t)) split ∙ take-append-add s t (n - length s)

-- the segments past n bytes have the bytes past the first n
pub concat-segments_past : (n : ℕ) (ss : List (List ℕ)) → concat (segments_past n ss) ≡ drop n (concat ss)
concat-segments_past n [] = sym (drop_all n [] (omega arith))
concat-segments_past n (s ∷ ss) =
    elim (cases_count n s) [
      | inl none ↦ rw none refl
      | inr (inl (some, fits)) ↦
          ap concat (past_whole n s ss some fits) ∙ concat-segments_past (n - length s) ss
          ∙ sym (drop_past n s (concat ss) fits)
      | inr (inr (some, short)) ↦
          let within : n ≤ length s = omega arith in
          ap concat (past_cut n s ss some short) ∙ sym (drop-append-le n s (concat ss) within)
    ]

-- the segments within n bytes have the first n bytes
pub concat-segments_within : (n : ℕ) (ss : List (List ℕ)) → concat (segments_within n ss) ≡ take n (concat ss)
concat-segments_within n [] = sym (take_all n [] (omega arith))
concat-segments_within n (s ∷ ss) =
    elim (cases_count n s) [
      | inl none ↦ rw none refl
      | inr (inl (some, fits)) ↦
          ap concat (within_whole n s ss some fits) ∙ ap (λ t. s ++ t) (concat-segments_within (n - length s) ss)
          ∙ sym (take_past n s (concat ss) fits)
      | inr (inr (some, short)) ↦
          let within : n ≤ length s = omega arith in
          ap concat (within_cut n s ss some short) ∙ append-nil (take n s) ∙ sym (take-append-le n s (concat ss) within)
    ]

-- the two parts of a cut have all the bytes
pub concat-within-past : (n : ℕ) (ss : List (List ℕ)) →
    concat (segments_within n ss) ++ concat (segments_past n ss) ≡ concat ss
concat-within-past n ss =
    rw (concat-segments_within n ss, concat-segments_past n ss) (take-append-drop n (concat ss))

-- a skip is at place `at` of the pieces with so many bytes left, and is to end at these segments
pub record IsSkipping (end : List (List ℕ)) (pieces : List (List ℕ)) (at left : ℕ) : Type 0 where
  pub within : at ≤ length pieces
  pub enough : left ≤ length (concat (drop at pieces))
  pub to_go : segments_past left (drop at pieces) ≡ end

-- The longest front of a text that passes.
use Rattle.std.proofs.Common.{◌≡◌, ℕ, zero, suc, ◌+◌, Bool, true, false, List, [], ◌∷◌, ◌++◌, length, take, get_or, refl, sym, ap, ◌∙◌, arith, inl, inr}
use Rattle.std.specs.List.{list_all, prefix_len, take_while}
use Rattle.std.proofs.lemmas.Bool.{cases_Bool, and_parts, eqb-true}
use Rattle.std.proofs.lemmas.List.{take_at, drop_at, take-append-drop}
use Rattle.script_text.specs.Tokens.{gap}
use Rattle.script_text.specs.Reading.{behind, is_space, skip}
use Rattle.std.proofs.lemmas.List.Sums.{take_while-cons}

pub front_passes : (p : ℕ → Bool) (xs : List ℕ) → list_all p (take (prefix_len p xs) xs) ≡ true
front_passes p [] = refl
front_passes p (x ∷ xs) =
    elim (cases_Bool (p x)) [
      | inl e ↦ rw (take_while-cons p x xs, e, e) (front_passes p xs)
      | inr e ↦ rw (take_while-cons p x xs, e) refl
    ]

behind_more : (p : ℕ → Bool) (x : ℕ) (xs : List ℕ) → p x ≡ true → behind p (x ∷ xs) ≡ behind p xs
behind_more p x xs e = let n : 1 + prefix_len p xs ≡ suc (prefix_len p xs) = omega arith in rw (e, n) refl

-- the spaces in front, and what stands behind them
pub skip_parts : (bytes : List ℕ) → (spaces : ℕ) × (bytes ≡ gap spaces ++ skip bytes)
skip_parts [] = (0, refl)
skip_parts (x ∷ xs) =
    elim (cases_Bool (is_space x)) [
      | inl e ↦
          let h = skip_parts xs in
          let is : x ≡ 32 = eqb-true x 32 e in
          (suc h.0, rw (behind_more is_space x xs e, is) (ap (λ (ys : List ℕ). 32 ∷ ys) h.1))
      | inr e ↦ (0, rw e refl)
    ]

-- spaces are skipped up to another byte
pub skip_gaps : (spaces byte : ℕ) (rest : List ℕ) → (is_space byte ≡ false) → skip (gap spaces ++ byte ∷ rest) ≡ byte ∷ rest
skip_gaps zero byte rest e = rw e refl
skip_gaps (suc spaces) byte rest e = behind_more is_space 32 (gap spaces ++ byte ∷ rest) refl ∙ skip_gaps spaces byte rest e

-- a front that passes, and behind it a byte that doesn't
pub front_len : (p : ℕ → Bool) (text rest : List ℕ) → list_all p text ≡ true → p 0 ≡ false → p (get_or rest 0 0) ≡ false → prefix_len p (text ++ rest) ≡ length text
front_len p [] [] all none stops = refl
front_len p [] (x ∷ rest) all none stops = rw stops refl
front_len p (x ∷ text) rest all none stops =
    let h = and_parts (p x) (list_all p text) all in
    rw (h.0, front_len p text rest h.1 none stops) (omega arith)

pub front_is : (p : ℕ → Bool) (text rest : List ℕ) → list_all p text ≡ true → p 0 ≡ false → p (get_or rest 0 0) ≡ false → take_while p (text ++ rest) ≡ text
front_is p text rest all none stops = rw (front_len p text rest all none stops) (take_at text rest (length text) refl)

pub behind_is : (p : ℕ → Bool) (text rest : List ℕ) → list_all p text ≡ true → p 0 ≡ false → p (get_or rest 0 0) ≡ false → behind p (text ++ rest) ≡ rest
behind_is p text rest all none stops = rw (front_len p text rest all none stops) (drop_at text rest (length text) refl)

-- what passes in front, and what stands behind it
pub front_parts : (p : ℕ → Bool) (bytes : List ℕ) → bytes ≡ take_while p bytes ++ behind p bytes
front_parts p bytes = sym (take-append-drop (prefix_len p bytes) bytes)

-- behind the longest front that passes, the next byte doesn't
pub front_stops : (p : ℕ → Bool) (bytes : List ℕ) → p 0 ≡ false → p (get_or (behind p bytes) 0 0) ≡ false
front_stops p [] none = none
front_stops p (x ∷ xs) none =
    elim (cases_Bool (p x)) [
      | inl e ↦ rw (behind_more p x xs e) (front_stops p xs none)
      | inr e ↦ rw e e
    ]

-- Sums over so many places, and counts of commands within others.
use Rattle.std.proofs.Common.{◌≡◌, ◌≢◌, ℕ, zero, suc, ◌+◌, ◌<◌, ◌≤◌, List, [], ◌∷◌, Bool, true, false, cond, eqb, refl, sym, ap, ◌∙◌, arith, ⊎_elim}
use Rattle.std.specs.Prelude.{filter}
use Rattle.std.specs.List.{All, sum_by}
use Rattle.std.proofs.lemmas.Bool.{cases_eq, eq-eqb, ne_eqb}
use Rattle.std.proofs.lemmas.List.Elements.{All-head, All-tail}
use Rattle.std.proofs.lemmas.List.Sums.{sum_by-cons}

-- the sum over the places below this one
abbrev pub over : ℕ → (ℕ → ℕ) → ℕ
over zero g = 0
over (suc n) g = over n g + g n

pub over-none : (n : ℕ) (g : ℕ → ℕ) → ((s : ℕ) → s < n → g s ≡ 0) → over n g ≡ 0
over-none zero g none = refl
over-none (suc n) g none = let rest = over-none n g (λ s below. none s (omega (arith, below))) in let last = none n (omega arith) in omega (arith, rest, last)

pub over-same : (n : ℕ) (g h : ℕ → ℕ) → ((s : ℕ) → s < n → g s ≡ h s) → over n g ≡ over n h
over-same zero g h same = refl
over-same (suc n) g h same = let rest = over-same n g h (λ s below. same s (omega (arith, below))) in let last = same n (omega arith) in omega (arith, rest, last)

pub over-add : (n : ℕ) (g h : ℕ → ℕ) → over n (λ s. g s + h s) ≡ over n g + over n h
over-add zero g h = omega arith
over-add (suc n) g h = let rest = over-add n g h in omega (arith, rest)

-- a sum of which one place alone has something
pub over-one : (n place v : ℕ) (g : ℕ → ℕ) → place < n → g place ≡ v → ((s : ℕ) → s ≢ place → g s ≡ 0) → over n g ≡ v
over-one zero place v g below here others = absurd (omega (arith, below))
over-one (suc n) place v g below here others = ⊎_elim
    (λ (last : n ≡ place).
    let rest = over-none n g (λ s less. others s (λ e. absurd (omega (arith, e, last, less)))) in
    let mine : g n ≡ v = ap g last ∙ here in
    omega (arith, rest, mine))
    (λ (apart : n ≡ place → ⊥).
    let rest = over-one n place v g (omega (arith, below, apart)) here others in
    let none = others n apart in
    omega (arith, rest, none))
    (cases_eq n place)

-- No more than others; and where there are as many, of the same size
pub record IsBelow (count size most all : ℕ) : Type 0 where
  pub few : count ≤ most
  pub same : count ≡ most → size ≡ all

pub below-same : (n m : ℕ) → IsBelow n m n m
below-same n m = record { few = omega arith; same = λ e. refl }

pub below-then : (a b c d e f : ℕ) → IsBelow a b c d → IsBelow c d e f → IsBelow a b e f
below-then a b c d e f one two =
    let x = one.few in
    let y = two.few in
    record { few = omega (arith, x, y); same = λ is. one.same (omega (arith, x, y, is)) ∙ two.same (omega (arith, x, y, is)) }

pub below-add : (a b c d e f g h : ℕ) → IsBelow a b c d → IsBelow e f g h → IsBelow (a + e) (b + f) (c + g) (d + h)
below-add a b c d e f g h one two =
    let x = one.few in
    let y = two.few in
    record { few = omega (arith, x, y); same = λ is. let u = one.same (omega (arith, x, y, is)) in let v = two.same (omega (arith, x, y, is)) in omega (arith, u, v) }

pub below-over : (n : ℕ) (a b c d : ℕ → ℕ) → ((s : ℕ) → s < n → IsBelow (a s) (b s) (c s) (d s)) → IsBelow (over n a) (over n b) (over n c) (over n d)
below-over zero a b c d each = below-same 0 0
below-over (suc n) a b c d each = below-add (over n a) (over n b) (over n c) (over n d) (a n) (b n) (c n) (d n) (below-over n a b c d (λ s below. each s (omega (arith, below)))) (each n (omega arith))

-- a sum over a list, by the place to which each element belongs
module _ {X : Type 0} (place : X → ℕ) (f : X → ℕ) where
  picked : (s : ℕ) (x : X) (xs : List X) (b : Bool) → sum_by f (cond b (x ∷ filter (λ y. eqb (place y) s) xs) (filter (λ y. eqb (place y) s) xs)) ≡ cond b (f x) 0 + sum_by f (filter (λ y. eqb (place y) s) xs)
  picked s x xs true = sum_by-cons f x (filter (λ y. eqb (place y) s) xs)
  picked s x xs false = omega arith

  pub over-places : (n : ℕ) (xs : List X) → All (λ x. place x < n) xs → over n (λ s. sum_by f (filter (λ x. eqb (place x) s) xs)) ≡ sum_by f xs
  over-places n [] within = over-none n (λ s. 0) (λ s below. refl)
  over-places n (x ∷ xs) within =
      let here = over-one n (place x) (f x) (λ s. cond (eqb (place x) s) (f x) 0) (All-head (λ y. place y < n) x xs within)
      (ap (λ b. cond b (f x) 0) (eq-eqb (place x) (place x) refl)) (λ s apart. ap (λ b. cond b (f x) 0) (ne_eqb (place x) s (λ e. apart (sym e)))) in
      let rest = over-places n xs (All-tail (λ y. place y < n) x xs within) in
      over-same n _ _ (λ s below. picked s x xs (eqb (place x) s))
      ∙ over-add n (λ s. cond (eqb (place x) s) (f x) 0) (λ s. sum_by f (filter (λ y. eqb (place y) s) xs))
      ∙ (λ i. here i + rest i)
      ∙ sym (sum_by-cons f x xs)

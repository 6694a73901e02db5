-- Queues as what is left of a list.
use Rattle.std.proofs.Common.{◌≡◌, ◌+◌, ◌≤◌, ℕ, min, List, [], ◌++◌, length, take, drop, Bool, true, false, refl, sym, ◌∙◌, ap, arith, length-append, length-drop}
use Rattle.std.specs.Prelude.{if◌then◌else◌}
use Rattle.std.proofs.lemmas.List.{take-append-le, drop-append-le, take-append-drop, length-take-le, append-nil, drop-drop}
use Rattle.std.proofs.Math.Seq.{take-append-add}

pub take-add : (g n : ℕ) (a : List ℕ) → g ≤ length a → take (g + n) a ≡ take g a ++ take n (drop g a)
take-add g n a within =
    let size : length (take g a) ≡ g = length-take-le g a within in
    let whole : take g a ++ drop g a ≡ a = take-append-drop g a in
    ap (take (g + n)) (sym whole) ∙ (ap (λ k. take (k + n) (take g a ++ drop g a)) (sym size) ∙ take-append-add (take g a) (drop g a) n)

-- the list without its first elements, or nothing
abbrev pub left : Bool → ℕ → List ℕ → List ℕ
left failed g a = if failed then [] else drop g a

pub given-quiet : (g : ℕ) (a more : List ℕ) → g ≤ length a → min (g + 0) (length (a ++ more)) ≡ g
given-quiet g a more within = omega (arith, length-append a more)

pub left-framed : (failed : Bool) (g : ℕ) (a more : List ℕ) → g ≤ length a
    → left failed (min (g + 0) (length (a ++ more))) (a ++ more) ≡ (if failed then left failed g a else left failed g a ++ more)
left-framed true g a more within = refl
left-framed false g a more within = ap (λ k. drop k (a ++ more)) (given-quiet g a more within) ∙ drop-append-le g a more within

pub left-quiet : (failed : Bool) (g : ℕ) (a : List ℕ) → g ≤ length a → left failed (min (g + 0) (length (a ++ []))) (a ++ []) ≡ left failed g a
left-quiet true g a within = refl
left-quiet false g a within = ap (λ k. drop k (a ++ [])) (given-quiet g a [] within) ∙ ap (drop g) (append-nil a)

given-took : (g n : ℕ) (a : List ℕ) → g ≤ length a → n ≤ length (drop g a) → min (g + (n + 0)) (length (a ++ [])) ≡ g + n
given-took g n a within few = omega (arith, length-append a [], length-drop g a)

none-of-none : (n : ℕ) (xs : List ℕ) → n ≤ 0 → xs ≡ drop n xs
none-of-none n xs none = let zero : n ≡ 0 = omega arith in rw zero refl

pub left-took : (failed : Bool) (g n : ℕ) (a : List ℕ) → g ≤ length a → n ≤ length (left failed g a)
    → left failed (min (g + (n + 0)) (length (a ++ []))) (a ++ []) ≡ drop n (left failed g a)
left-took true g n a within few = none-of-none n [] few
left-took false g n a within few =
    ap (λ k. drop k (a ++ [])) (given-took g n a within few) ∙ (ap (drop (g + n)) (append-nil a) ∙ sym (drop-drop n g a))

pub front-quiet : (g : ℕ) (a more : List ℕ) → g ≤ length a → take (min (g + 0) (length (a ++ more))) (a ++ more) ≡ take g a
front-quiet g a more within = ap (λ k. take k (a ++ more)) (given-quiet g a more within) ∙ take-append-le g a more within

pub front-took : (failed : Bool) (g n : ℕ) (a : List ℕ) → g ≤ length a → n ≤ length (left failed g a)
    → take (min (g + (n + 0)) (length (a ++ []))) (a ++ []) ≡ take g a ++ take n (left failed g a)
front-took true g n a within few =
    let none : n ≡ 0 = omega arith in
    let g' : min (g + (n + 0)) (length (a ++ [])) ≡ g = omega (arith, length-append a []) in
    ap (λ k. take k (a ++ [])) g' ∙ (ap (take g) (append-nil a) ∙ (sym (append-nil (take g a)) ∙ ap (λ k. take g a ++ take k []) (sym none)))
front-took false g n a within few =
    ap (λ k. take k (a ++ [])) (given-took g n a within few) ∙ (ap (take (g + n)) (append-nil a) ∙ take-add g n a within)

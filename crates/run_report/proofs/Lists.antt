-- One more element with its place, and what a function gives of the numbers below a bound.
use Rattle.std.proofs.Common.{◌≡◌, ℕ, suc, ◌+◌, ◌<◌, List, [], ◌∷◌, ◌++◌, length, take, get_or, map, ap, sym, refl, ◌∙◌, arith}
use Rattle.std.specs.List.{flat_map, range_with_len, enumerate_from}
use Rattle.std.proofs.lemmas.List.{append-nil, take_more, length-take, flat_map_more}
use Rattle.std.proofs.lemmas.List.Concat.{flat_map-append}
use Rattle.std.proofs.lemmas.List.FromFn.{fill_by_all}
use Rattle.port_model.specs.declared.mail.Mail.{Mail}
use Rattle.port_history.specs.Counts.{saved_data, saved_of}
use Rattle.run_report.specs.Data.{Holds}

enumerate_from_push : {X : Type 0} (n : ℕ) (xs : List X) (x : X) → enumerate_from n (xs ++ x ∷ []) ≡ enumerate_from n xs ++ (n + length xs, x) ∷ []
enumerate_from_push n [] x = ap (λ k. (k, x) ∷ []) (omega arith)
enumerate_from_push n (y ∷ xs) x =
    let e : n + 1 + length xs ≡ n + suc (length xs) = omega arith in
    ap (λ rest. (n, y) ∷ rest) (enumerate_from_push (n + 1) xs x ∙ ap (λ k. enumerate_from (n + 1) xs ++ (k, x) ∷ []) e)

flat_map_push : {X : Type 0} (f : X → List ℕ) (xs : List X) (x : X) → flat_map f (xs ++ x ∷ []) ≡ flat_map f xs ++ f x
flat_map_push f xs x = flat_map-append f xs (x ∷ []) ∙ ap (λ rest. flat_map f xs ++ rest) (append-nil (f x))

-- what a function gives on the first i + 1 elements and their places
pub flat_map-enumerate_more : {X : Type 0} (f : ℕ × X → List ℕ) (xs : List X) (i : ℕ) (x : X) → i < length xs → x ≡ get_or xs i x
    → flat_map f (enumerate_from 0 (take (i + 1) xs)) ≡ flat_map f (enumerate_from 0 (take i xs)) ++ f (i, x)
flat_map-enumerate_more f xs i x h is =
    let place : 0 + length (take i xs) ≡ i = rw length-take (omega arith) in
    let front : take (i + 1) xs ≡ take i xs ++ x ∷ [] = take_more xs i x h ∙ ap (λ y. take i xs ++ y ∷ []) (sym is) in
    rw (front, enumerate_from_push 0 (take i xs) x, place) (flat_map_push f (enumerate_from 0 (take i xs)) (i, x))

-- one line more after the lines of the first i elements
pub more-lines : {X : Type 0} (f : X → List ℕ) (xs : List X) (i : ℕ) (x : X) (text before now line : List ℕ) → i < length xs → x ≡ get_or xs i x
    → before ≡ text ++ flat_map f (take i xs) → now ≡ before ++ line → line ≡ f x → now ≡ text ++ flat_map f (take (i + 1) xs)
more-lines f xs i x text before now line h is first more e =
    let front : take (i + 1) xs ≡ take i xs ++ x ∷ [] = take_more xs i x h ∙ ap (λ y. take i xs ++ y ∷ []) (sym is) in
    more ∙ ap (λ t. t ++ line) first ∙ ap (λ l. (text ++ flat_map f (take i xs)) ++ l) e ∙ flat_map_more f text (take i xs) x
    ∙ ap (λ ys. text ++ flat_map f ys) (sym front)

flat_map-map : (f : ℕ → List ℕ) (xs : List ℕ) → flat_map (λ x. x) (map f xs) ≡ flat_map f xs
flat_map-map f [] = refl
flat_map-map f (x ∷ xs) = ap (λ rest. f x ++ rest) (flat_map-map f xs)

-- the data of all ports, where each list has that of its port
pub saved_all : (ports : ℕ) (mails : List Mail) (lists : List (List ℕ)) → Holds ports mails lists → flat_map (λ x. x) lists ≡ saved_data ports mails
saved_all ports mails lists holds =
    ap (flat_map (λ x. x)) (fill_by_all (λ port. saved_of port mails) lists ports [] holds.len holds.saved)
    ∙ flat_map-map (λ port. saved_of port mails) (range_with_len 0 ports)

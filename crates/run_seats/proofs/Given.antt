-- Elements that go one after another into a list, each with the next of another list.
use Rattle.std.proofs.Common.{◌≡◌, ◌+◌, List, [], ◌∷◌, ◌++◌, length, map, sym, ap, ◌∙◌, subst, append_assoc, length-append, arith}
use Rattle.std.specs.List.{All}
use Rattle.std.proofs.lemmas.List.{map_push, nil_from_length}
use Rattle.std.proofs.lemmas.List.Elements.{All-push, All-head, All-tail}
use Rattle.ticket_account.proofs.Seats.{map_length}

-- what each got of the other list, and what is left there
pub given_more : {A C : Type 0} (f : C → A) (all all' : List C) (whole rest rest' : List A) (x : A) (y : C) → all' ≡ all ++ y ∷ [] → f y ≡ x → rest ≡ x ∷ rest' → map f all ++ rest ≡ whole → map f all' ++ rest' ≡ whole
given_more f all all' whole rest rest' x y put is next was =
    ap (λ l. map f l ++ rest') put ∙ ap (λ l. l ++ rest') (map_push f all y) ∙ append_assoc (map f all) (f y ∷ []) rest' ∙ ap (λ z. map f all ++ z ∷ rest') is ∙ ap (λ l. map f all ++ l) (sym next) ∙ was

-- P holds of one more
pub all_more : {C : Type 0} (P : C → Type 0) (all all' : List C) (y : C) → all' ≡ all ++ y ∷ [] → All P all → P y → All P all'
all_more P all all' y put were is = subst (All P) (sym put) (All-push P all y were is)

all_right : {C : Type 0} (P : C → Type 0) (xs ys : List C) → All P (xs ++ ys) → All P ys
all_right P [] ys all = all
all_right P (x ∷ xs) ys all = all_right P xs ys (All-tail P x (xs ++ ys) all)

-- P holds of what is left
pub all_behind : {C : Type 0} (P : C → Type 0) (xs ys whole : List C) → xs ++ ys ≡ whole → All P whole → All P ys
all_behind P xs ys whole is all = all_right P xs ys (subst (All P) (sym is) all)

-- and of the next of it, and of the rest
pub all_next : {C : Type 0} (P : C → Type 0) (rest rest' : List C) (x : C) → rest ≡ x ∷ rest' → All P rest → P x × All P rest'
all_next P rest rest' x is all = let here = subst (All P) is all in (All-head P x rest' here, All-tail P x rest' here)

-- the list is given away whole: first to these and to those, and then there are two left
pub whole_of : {U V X : Type 0} (f : U → X) (g : V → X) (us : List U) (vs : List V) (s0 s1 s2 s3 s4 whole : List X) (p q : X) → s0 ≡ whole → map f us ++ s1 ≡ s0 → map g vs ++ s2 ≡ s1 → s2 ≡ p ∷ s3 → s3 ≡ q ∷ s4
    → length whole ≡ length us + length vs + 2 → ((map f us ++ map g vs) ++ p ∷ []) ++ q ∷ [] ≡ whole
whole_of f g us vs s0 s1 s2 s3 s4 whole p q all first second third fourth many =
    let a = ap length all in
    let b = ap length first in
    let c = ap length second in
    let d = ap length third in
    let e = ap length fourth in
    let mine = length-append (map f us) s1 in
    let theirs = length-append (map g vs) s2 in
    let us_many = map_length f us in
    let vs_many = map_length g vs in
    let none : s4 ≡ [] = nil_from_length s4 (omega arith) in
    let two : s2 ≡ p ∷ q ∷ [] = third ∙ ap (λ l. p ∷ l) (fourth ∙ ap (λ l. q ∷ l) none) in
    append_assoc (map f us ++ map g vs) (p ∷ []) (q ∷ []) ∙ append_assoc (map f us) (map g vs) (p ∷ q ∷ []) ∙ ap (λ l. map f us ++ (map g vs ++ l)) (sym two) ∙ ap (λ l. map f us ++ l) second ∙ first ∙ all

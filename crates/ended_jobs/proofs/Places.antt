-- What stands at one place of lists that go together.
use Rattle.std.proofs.Common.{◌≡◌, ◌<◌, ℕ, List, [], ◌∷◌, length, map, get_or, sym, ap, ◌∙◌, arith}
use Rattle.std.proofs.lemmas.List.{get_or-map, length-map}

-- an element, to read the list with
pub one_of : {A : Type 0} (xs : List A) (n : ℕ) → n < length xs → A
one_of [] n below = absurd (omega (arith, below))
one_of (x ∷ xs) n below = x

-- lists that show the same are as long
pub same_many : {A C D : Type 0} (f : A → D) (h : C → D) (xs : List A) (ys : List C) → map f xs ≡ map h ys → length xs ≡ length ys
same_many f h xs ys same = sym (length-map xs f) ∙ ap length same ∙ length-map ys h

-- what stands at one place shows the same too
pub mapped_at : {A C D : Type 0} (f : A → D) (h : C → D) (xs : List A) (ys : List C) (n : ℕ) (a : A) (c : C) → map f xs ≡ map h ys → n < length xs → f (get_or xs n a) ≡ h (get_or ys n c)
mapped_at f h xs ys n a c same below =
    let many = same_many f h xs ys same in
    let here = get_or-map f xs n a (f a) below in
    let there = get_or-map h ys n c (f a) (omega (arith, many, below)) in
    sym here ∙ ap (λ l. get_or l n (f a)) same ∙ there

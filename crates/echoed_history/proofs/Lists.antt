-- What holds of each of a list, and the last of a list.
use Rattle.std.proofs.Common.{◌≡◌, ◌-◌, ◌<◌, List, [], ◌∷◌, ◌++◌, length, refl, sym, ap, subst, arith}
use Rattle.std.specs.Prelude.{reverse}
use Rattle.std.specs.List.{AllByRecursion}
use Rattle.std.proofs.lemmas.List.{length-reverse, get_or-reverse}
use Rattle.std.proofs.lemmas.List.Elements.{All-from_recursion, recursion_from_All}

pub both : {X : Type 0} (P : X → Type 0) (xs ys : List X) → AllByRecursion P xs → AllByRecursion P ys → AllByRecursion P (xs ++ ys)
both P [] ys a b = b
both P (x ∷ xs) ys a b = (a.0, both P xs ys a.1 b)

pub front : {X : Type 0} (P : X → Type 0) (xs ys : List X) → AllByRecursion P (xs ++ ys) → AllByRecursion P xs
front P [] ys all = tt
front P (x ∷ xs) ys all = (all.0, front P xs ys all.1)

pub back : {X : Type 0} (P : X → Type 0) (xs ys : List X) → AllByRecursion P (xs ++ ys) → AllByRecursion P ys
back P [] ys all = all
back P (x ∷ xs) ys all = back P xs ys all.1

pub weaker : {X : Type 0} (P Q : X → Type 0) (xs : List X) → ((x : X) → P x → Q x) → AllByRecursion P xs → AllByRecursion Q xs
weaker P Q [] f all = tt
weaker P Q (x ∷ xs) f all = (f x all.0, weaker P Q xs f all.1)

pub reversed : {X : Type 0} (P : X → Type 0) (xs : List X) → AllByRecursion P xs → AllByRecursion P (reverse xs)
reversed P xs all = recursion_from_All P (reverse xs) (λ k d below.
    let long = length-reverse xs in
    let inside : k < length xs = omega (arith, below, long) in
    subst P (sym (get_or-reverse xs k d inside)) (All-from_recursion P xs all (length xs - 1 - k) d (omega (arith, inside))))

pub none-behind : {X : Type 0} (xs ys : List X) (x : X) → [] ≡ xs ++ x ∷ ys → ⊥
none-behind [] ys x e = cc
none-behind (y ∷ xs) ys x e = cc

pub same-last : {X : Type 0} (xs ys : List X) (x y : X) → xs ++ x ∷ [] ≡ ys ++ y ∷ [] → (xs ≡ ys) × (x ≡ y)
same-last [] [] x y e = (refl, cc)
same-last [] (b ∷ ys) x y e = absurd (none-behind ys [] y cc)
same-last (a ∷ xs) [] x y e = absurd (none-behind xs [] x (let rest : xs ++ x ∷ [] ≡ [] = cc in sym rest))
same-last (a ∷ xs) (b ∷ ys) x y e =
    let first : a ≡ b = cc in
    let rest = same-last xs ys x y cc in
    (λ i. first i ∷ rest.0 i, rest.1)

-- a list that isn't empty has a last element
pub has-last : {X : Type 0} (x : X) (xs : List X) → (before : List X) × (last : X) × (x ∷ xs ≡ before ++ last ∷ [])
has-last x [] = ([], x, refl)
has-last x (y ∷ ys) = let rest = has-last y ys in (x ∷ rest.0, rest.1, ap (λ zs. x ∷ zs) rest.2)

-- The numbers of which the commands are made.
use Rattle.std.proofs.Common.{◌≡◌, ℕ, zero, suc, ◌+◌, ◌-◌, ◌<◌, ◌≤◌, List, [], ◌∷◌, ◌++◌, length, refl, sym, ap, ◌∙◌, arith}
use Rattle.std.proofs.lemmas.List.{append_assoc, append-nil}
use Rattle.script_load.specs.Load.{next, values}

pub length-values : (n x : ℕ) → length (values n x) ≡ n
unfolding values
length-values zero x = refl
length-values (suc n) x = ap suc (length-values n (next x))

-- behind one more number
pub values_more : (all : List ℕ) (n k x : ℕ) → k < n → all ++ values (n - k) x ≡ (all ++ next x ∷ []) ++ values (n - (k + 1)) (next x)
unfolding values
values_more all n k x within =
    let e : n - k ≡ suc (n - (k + 1)) = omega arith in
    ap (λ m. all ++ values m x) e ∙ sym (append_assoc all (next x ∷ []) (values (n - (k + 1)) (next x)))

pub values_all : (all : List ℕ) (n k x : ℕ) → n ≤ k → all ++ values (n - k) x ≡ all
unfolding values
values_all all n k x e = let none : n - k ≡ 0 = omega arith in ap (λ m. all ++ values m x) none ∙ append-nil all

-- Sublists of a list that grows.
use Rattle.std.proofs.Common.{◌≡◌, ℕ, suc, ◌+◌, ◌<◌, inl, inr, List, [], ◌∷◌, ◌++◌, take, get_or, length, refl, arith}
use Rattle.std.proofs.Math.Seq.{take-suc}
use Rattle.outside.specs.Sublist.{IsSublist}

-- both get the same one more
pub IsSublist-both : (xs ys : List ℕ) (y : ℕ) → IsSublist xs ys → IsSublist (xs ++ y ∷ []) (ys ++ y ∷ [])
IsSublist-both [] [] y part = inl (refl, tt)
IsSublist-both [] (z ∷ ys) y part = inr (IsSublist-both [] ys y tt)
IsSublist-both (x ∷ xs) [] y part = absurd part
IsSublist-both (x ∷ xs) (z ∷ ys) y (inl (same, part)) = inl (same, IsSublist-both xs ys y part)
IsSublist-both (x ∷ xs) (z ∷ ys) y (inr part) = inr (IsSublist-both (x ∷ xs) ys y part)

-- the second gets one more
pub IsSublist-more : (xs ys : List ℕ) (y : ℕ) → IsSublist xs ys → IsSublist xs (ys ++ y ∷ [])
IsSublist-more [] ys y part = tt
IsSublist-more (x ∷ xs) [] y part = absurd part
IsSublist-more (x ∷ xs) (z ∷ ys) y (inl (same, part)) = inl (same, IsSublist-more xs ys y part)
IsSublist-more (x ∷ xs) (z ∷ ys) y (inr part) = inr (IsSublist-more (x ∷ xs) ys y part)

-- one place more was looked at, and its event is taken
pub IsSublist-taken : (xs ys : List ℕ) (i : ℕ) (d : ℕ) → i < length ys → IsSublist xs (take i ys) → IsSublist (xs ++ get_or ys i d ∷ []) (take (i + 1) ys)
IsSublist-taken xs ys i d within part = let next : i + 1 ≡ suc i = omega arith in rw (next, take-suc ys i d within) (IsSublist-both xs (take i ys) (get_or ys i d) part)

-- one place more was looked at, and its event is passed over
pub IsSublist-passed : (xs ys : List ℕ) (i : ℕ) (d : ℕ) → i < length ys → IsSublist xs (take i ys) → IsSublist xs (take (i + 1) ys)
IsSublist-passed xs ys i d within part = let next : i + 1 ≡ suc i = omega arith in rw (next, take-suc ys i d within) (IsSublist-more xs (take i ys) (get_or ys i d) part)

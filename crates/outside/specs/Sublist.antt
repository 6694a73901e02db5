-- Lists that are part of another, in its order.
use Rattle.std.specs.Prelude.{◌≡◌, ℕ, ◌⊎◌, List, [], ◌∷◌}

-- some of the second list's elements, in their order, each place at most once
abbrev pub IsSublist : List ℕ → List ℕ → Type 0
IsSublist [] all = Unit {0}
IsSublist (x ∷ xs) [] = ⊥
IsSublist (x ∷ xs) (y ∷ ys) = ((x ≡ y) × IsSublist xs ys) ⊎ IsSublist (x ∷ xs) ys

-- The first law that isn't kept, of some laws and then of others.
use Rattle.std.proofs.Common.{◌≡◌, ℕ, ◌+◌, List, [], ◌∷◌, ◌++◌, length, Bool, true, false, Some, None, refl, ap, ◌∙◌, arith}
use Rattle.port_history.specs.Lawful.{least}

-- one of the first is broken
pub least-before : (front more : List Bool) (n law : ℕ) → least front n ≡ Some law → least (front ++ more) n ≡ Some law
least-before [] more n law e = absurd cc
least-before (true ∷ front) more n law e = least-before front more (n + 1) law e
least-before (false ∷ front) more n law e = e

-- none of the first is broken
pub least-behind : (front more : List Bool) (n : ℕ) → least front n ≡ None → least (front ++ more) n ≡ least more (n + length front)
least-behind [] more n e = let at : n ≡ n + 0 = omega arith in ap (least more) at
least-behind (true ∷ front) more n e =
    let at : (n + 1) + length front ≡ n + length (true ∷ front) = omega arith in least-behind front more (n + 1) e ∙ ap (least more) at
least-behind (false ∷ front) more n e = absurd cc

abbrev pub AllTrue : List Bool → Type 0
AllTrue [] = Unit {0}
AllTrue (b ∷ bs) = (b ≡ true) × AllTrue bs

-- none at all is broken
pub least-none : (kept : List Bool) (n : ℕ) → least kept n ≡ None → AllTrue kept
least-none [] n e = tt
least-none (true ∷ kept) n e = (refl, least-none kept (n + 1) e)
least-none (false ∷ kept) n e = absurd cc

-- An event stands once where it stands alone.
use Rattle.std.proofs.Common.{ℕ, ◌==◌, [], ◌∷◌}
use Rattle.std.specs.List.{IsDistinct}

pub distinct-one : (a : ℕ) → IsDistinct (λ x y. x == y) (a ∷ [])
unfolding IsDistinct
distinct-one a = (tt, tt)

-- Short lists of events, each of which stands once.
use Rattle.std.proofs.Common.{◌≡◌, ℕ, ◌==◌, false, [], ◌∷◌}
use Rattle.std.specs.List.{IsDistinct}

pub distinct-two : (a b : ℕ) → (a == b) ≡ false → IsDistinct (λ x y. x == y) (a ∷ b ∷ [])
unfolding IsDistinct
distinct-two a b ab = ((ab, tt), (tt, tt))

pub distinct-three : (a b c : ℕ) → (a == b) ≡ false → (a == c) ≡ false → (b == c) ≡ false → IsDistinct (λ x y. x == y) (a ∷ b ∷ c ∷ [])
unfolding IsDistinct
distinct-three a b c ab ac bc = ((ab, (ac, tt)), ((bc, tt), (tt, tt)))

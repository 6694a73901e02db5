-- What jobs that run at the same time have done.
use Rattle.std.specs.Prelude.{◌≡◌, ℕ, List, length, slice_get, Some}

-- each went from what it was to what it is, in its place
pub record WentEach {A : Type 0} (went : A → A → Type 0) (old new : List A) : Type 0 where
  pub count : length new ≡ length old
  pub each : (n : ℕ) (x y : A) → slice_get old n ≡ Some x → slice_get new n ≡ Some y → went x y

-- Lists of which the places change.
use Rattle.std.specs.Prelude.{◌≡◌, ◌≢◌, ◌<◌, ℕ, List, length, slice_index_or}

module _ {X : Type 0} where
  -- what stands at this place changed as P says, and the others are as they were
  pub record ChangesAt (place : ℕ) (P : X → X → Type 0) (old new : List X) : Type 0 where
    pub many : length new ≡ length old
    pub here : (d e : X) → P (slice_index_or old place d) (slice_index_or new place e)
    pub others : (k : ℕ) (d : X) → k ≢ place → slice_index_or new k d ≡ slice_index_or old k d

  -- what stands at each place changed as P says of the place
  pub record ChangesEach (P : ℕ → X → X → Type 0) (old new : List X) : Type 0 where
    pub many : length new ≡ length old
    pub each : (k : ℕ) (d e : X) → k < length old → P k (slice_index_or old k d) (slice_index_or new k e)

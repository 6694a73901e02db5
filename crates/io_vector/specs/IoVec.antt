-- what every `IoVec` keeps of its fields
use Rattle.std.specs.Prelude.{◌≡◌, ◌<◌, ◌≤◌, ◌^◌, ℕ, List, length, drop}
use Rattle.std.specs.List.{concat}

-- the segments of the vector are the pieces from place `first` on, and `size` is how many bytes they have
pub record IsCounted (pieces : List (List ℕ)) (first size : ℕ) : Type 0 where
  pub within : first ≤ length pieces
  pub counted : size ≡ length (concat (drop first pieces))
  pub small : size < 2 ^ 63

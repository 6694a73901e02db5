-- what a `DriverQueue` is seen as, and what each keeps of its fields
use Rattle.std.specs.Prelude.{◌≡◌, ◌<◌, ◌^◌, ℕ, List, length}
use Rattle.std.specs.List.{concat}

-- the segments, front first, and how many more have a place already. The bytes of the queue are those of
-- the segments, joined in order, `concat segments`
pub record Queued : Type 0 where
  pub segments : List (List ℕ)
  pub room : ℕ

-- `size` is how many bytes the segments have
pub record IsSized (segments : List (List ℕ)) (size : ℕ) : Type 0 where
  pub counted : size ≡ length (concat segments)
  pub small : size < 2 ^ 63

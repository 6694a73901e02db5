-- Output in memory.
use Rattle.std.specs.Prelude.{◌≡◌, ℕ, ◌+◌, ◌≤◌, ◌<◌, List, ◌++◌, length}
use Rattle.outside.specs.Plan.{CallPlanView}

-- the bytes written so far, how many more there is room for, how many bytes a put that is to fail takes, the puts made and to fail, their
-- faults, and the bytes of the puts that answered `Ok`
pub record Tape : Type 0 where
  pub written : List ℕ
  pub room : ℕ
  pub part : ℕ
  pub puts : CallPlanView
  pub faults : ℕ
  pub took : List ℕ

-- these bytes were written, and the room for them is used up
pub record Writes (old new : Tape) (bytes : List ℕ) : Type 0 where
  pub written : new.written ≡ old.written ++ bytes
  pub room : old.room ≤ new.room + length bytes

-- nothing was written, which comes only where there is no room for these bytes
pub record LacksRoom (old new : Tape) (bytes : List ℕ) : Type 0 where
  pub written : new.written ≡ old.written
  pub room : old.room ≤ new.room
  pub lacks : old.room < length bytes

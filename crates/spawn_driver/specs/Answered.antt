-- The answers that a callback recorded are those of its program.
use Rattle.std.specs.Prelude.{◌≡◌, ◌<◌, ℕ, List, [], ◌++◌, length, false, All, Option, None, Some, IfSome}
use Rattle.port_signal.specs.declared.outside.Outside.{Outside}
use Rattle.port_signal.specs.declared.outside.Outside.TheVariants.{Took, Again}
use Rattle.outside.specs.Children.{Stand}
use Rattle.port_driver.specs.Faults.{failures, RisenBy}
use Rattle.spawn_driver.specs.Serving.{Serving}

-- how the program of a driver stands, where it tells
abbrev pub stand_of : Option Serving → Option Stand
stand_of None = None
stand_of (Some s) = s.child.stand

-- a program that stands so answers this: it gives nothing only where it has nothing to give and its output hasn't ended, and takes nothing
-- of a queue that has bytes only where it takes none now
abbrev pub IsAnswer : List ℕ → Stand → Outside → Type 0
IsAnswer queue stand Again = (stand.gives ≡ []) × (stand.ended ≡ None)
IsAnswer queue stand (Took count) = count ≡ 0 → 0 < length queue → stand.takes ≡ false
IsAnswer queue stand answer = Unit {0}

-- the count of faults rose with each failure that was recorded, up to the greatest `u64`, and a program that tells stood as it answered
pub record Answered (queue : List ℕ) (stand : Option Stand) (before after : ℕ) (old new : List Outside) : Type 0 where
  pub answers : List Outside
  pub outside : new ≡ old ++ answers
  pub faults : RisenBy (failures answers) before after
  pub stands : IfSome stand (λ (s : Stand). All (IsAnswer queue s) answers)

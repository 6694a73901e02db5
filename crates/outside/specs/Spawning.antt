-- What starts programs of memory.
use Rattle.std.specs.Prelude.{◌≡◌, ℕ, ◌+◌, ◌<◌, ◌^◌, List, [], ◌∷◌, length}
use Rattle.outside.specs.Plan.{CallPlanView}
use Rattle.outside.specs.Programs.{ProgramView, Running}

-- the read event of the next child, the programs that are left, the starts made and to fail, and their faults
pub record Spawning : Type 0 where
  pub next_event : ℕ
  pub programs : List ProgramView
  pub starts : CallPlanView
  pub faults : ℕ

-- a program and two events are left
pub record IsLeft (s : Spawning) : Type 0 where
  pub program : 0 < length s.programs
  pub events : s.next_event + 2 < 2 ^ 32

-- the next program was started, with the next two events
pub record Launches (old new : Spawning) (child : Running) : Type 0 where
  pub program : ProgramView
  pub programs : old.programs ≡ program ∷ new.programs
  pub next_event : new.next_event ≡ old.next_event + 2
  pub read_event : child.read_event ≡ old.next_event
  pub write_event : child.write_event ≡ old.next_event + 1
  pub grain : child.grain ≡ program.grain
  pub chunks : child.chunks ≡ program.chunks
  pub ending : child.ending ≡ program.ending
  pub current : child.current ≡ []

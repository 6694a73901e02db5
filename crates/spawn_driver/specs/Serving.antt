-- The program of a port, with what its driver keeps beside the queue.
use Rattle.std.specs.Prelude.{◌≡◌, ◌+◌, ◌-◌, ◌^◌, ℕ, ℤ, List, [], Option, None, Some, IsSome, min, if◌then◌else◌}
use Rattle.std.specs.Option.{option_map}
use Rattle.packet_framing.specs.declared.mode.Mode.{Mode}
use Rattle.packet_framing.specs.declared.mode.Mode.TheVariants.{Stream}
use Rattle.packet_framing.specs.Unframed.{Unframed}
use Rattle.outside.specs.Children.{ChildView, Stand}
use Rattle.driver_model.specs.Calls.{Own, Nothing, Running, Program, is_empty}
use Rattle.driver_model.specs.Programs.{ToldProgram}
use Rattle.port_driver.specs.declared.life.Life.{Life}
use Rattle.port_driver.specs.declared.life.Life.TheVariants.{Fresh, Started, Stopped}

-- the bytes that an unframer holds back
abbrev pub rest_in : Option Unframed → List ℕ
rest_in None = []
rest_in (Some unframer) = unframer.held

-- an unframer of a stream holds no bytes back
abbrev pub HoldsBack : Mode → List ℕ → Type 0
HoldsBack Stream held = held ≡ []
HoldsBack mode held = Unit {0}

-- a program, with the count of its faults and what its driver keeps
pub record Serving : Type 0 where
  pub child : ChildView
  pub faults : ℕ
  pub kept : Program

-- what the driver keeps beside its queue
abbrev pub own_of : Option Serving → Own
own_of None = Nothing
own_of (Some s) = Running s.kept

-- the status of a program whose output has ended and was taken whole
abbrev pub status_of : Stand → Option ℤ
status_of stand = if is_empty stand.gives then stand.ended else None

-- what is told of a child that stands so, and of one that doesn't tell how it stands, as those of the machine don't
abbrev pub told_of : ChildView → Option Stand → ToldProgram
told_of child stand = record { command = child.command; given = child.given; taken = child.fetched; at_end = child.at_end; status = option_map status_of stand }

-- what is told of a child
abbrev pub told : ChildView → Option ToldProgram
told child = Some (told_of child child.stand)

abbrev pub program_of : Option Serving → Option ToldProgram
program_of None = None
program_of (Some s) = told s.child

-- a driver of programs: where it stands, the count of its spawner's faults, and its program
pub record SpawnView : Type 0 where
  pub life : Life
  pub starts : ℕ
  pub program : Option Serving

-- the faults of a program, 0 without one
abbrev pub program_faults : Option Serving → ℕ
program_faults None = 0
program_faults (Some s) = s.faults

-- the faults of the spawner and of its program together, up to the greatest `u64`
abbrev pub all_faults : SpawnView → ℕ
all_faults v = min (v.starts + program_faults v.program) (2 ^ 64 - 1)

-- a started driver has a program, and a fresh one has none
abbrev pub HasProgram : Life → Option Serving → Type 0
HasProgram Fresh program = program ≡ None
HasProgram Started program = IsSome program
HasProgram Stopped program = Unit {0}

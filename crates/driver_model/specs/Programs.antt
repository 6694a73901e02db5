-- What is told of a program, and that the calls of its driver agree with it.
use Rattle.std.specs.Prelude.{◌≡◌, ℕ, ℤ, List, [], ◌∷◌, ◌++◌, take, Bool, true, false, ◌||◌, All, Option, Some, IfSome, IsSome}
use Rattle.port_config.specs.declared.config.Config.{Config}
use Rattle.port_model.specs.port_signal.declared.outside.Outside.{Outside}
use Rattle.port_model.specs.port_signal.declared.outside.Outside.TheVariants.{Status}
use Rattle.driver_model.specs.Calls.{Own, Running, DriverCall}
use Rattle.driver_model.specs.Spawn.{asked, given, has_end, taken_bytes}

-- the command text with which a program was started, the bytes that it was given and that were taken from it, and whether the end of its output
-- was fetched; and its status, once its output has ended and all of it was taken, where a program tells this
pub record ToldProgram : Type 0 where
  pub command : List ℕ
  pub given : List ℕ
  pub taken : List ℕ
  pub at_end : Bool
  pub status : Option (Option ℤ)

-- the program told the end of its output
abbrev pub output_ended : List DriverCall → Bool
output_ended [] = false
output_ended (call ∷ earlier) = has_end call.outside || output_ended earlier

abbrev pub statuses_in : List Outside → List ℤ
statuses_in [] = []
statuses_in (Status status ∷ answers) = status ∷ statuses_in answers
statuses_in (answer ∷ answers) = statuses_in answers

-- the statuses that the program told
abbrev pub statuses : List DriverCall → List ℤ
statuses [] = []
statuses (call ∷ earlier) = statuses_in call.outside ++ statuses earlier

-- the program was started with the config's command text, was given the front of the frames, gave the bytes that were taken, and its end was
-- fetched where one was told; where it tells its status, its output has ended then, and its status is each that was told
pub record Tells (config : Config) (calls : List DriverCall) (program : ToldProgram) : Type 0 where
  pub command : program.command ≡ config.run
  pub given : program.given ≡ take (given config calls) (asked config calls)
  pub taken : program.taken ≡ taken_bytes calls
  pub at_end : program.at_end ≡ output_ended calls
  pub ended : output_ended calls ≡ true → IfSome program.status (λ (own : Option ℤ). IsSome own)
  pub status : IfSome program.status (λ (own : Option ℤ). All (λ (status : ℤ). own ≡ Some status) (statuses calls))

-- a driver that keeps what calls leave of a program tells of that program
abbrev pub TellsOfProgram : Own → Option ToldProgram → Type 0
TellsOfProgram (Running kept) program = IsSome program
TellsOfProgram own program = Unit {0}

-- What a callback leaves: the same for every list of earlier calls that led to what the driver held.
use Rattle.std.specs.Prelude.{◌≡◌, ◌≤◌, ◌+◌, ℕ, List, [], ◌∷◌, ◌++◌, length, true, Option, IfSome}
use Rattle.driver_model.specs.port_model.port_signal.declared.outside.Outside.{Outside}
use Rattle.port_config.specs.declared.config.Config.{Config}
use Rattle.driver_model.specs.port_model.declared.effect.Effect.{Effect}
use Rattle.driver_model.specs.Calls.{Callback, Stop, DriverCall, call_of, Own, Held, Kind}
use Rattle.driver_model.specs.Drivers.{holds, job_count, held_events, effects_of, is_answered, start_of}
use Rattle.driver_model.specs.Programs.{ToldProgram, Tells}
use Rattle.port_driver.specs.Context.{Context, SameEvents}
use Rattle.port_driver.specs.declared.life.Life.{Life}
use Rattle.port_driver.specs.declared.life.Life.TheVariants.{Started}

-- what a driver holds, by what it keeps and the bytes of its queue
abbrev pub held_of : Own → List ℕ → Held
held_of own queue = record { own = own; queue = queue }

-- these calls led to what the driver keeps, to its queue, its events and its jobs, and to its program, where this is told
pub record Stands (kind : Kind) (config : Config) (calls : List DriverCall) (own : Own) (program : Option ToldProgram) (context : Context) : Type 0 where
  pub holds : held_of own context.queue ≡ holds kind config calls
  pub jobs : context.next_job ≡ job_count kind config calls
  pub events : SameEvents context.held (held_events kind config calls)
  pub told : IfSome program (Tells config calls)

-- a driver went on from what it held by this call, which had these effects
pub record Follows (kind : Kind) (config : Config) (earlier : List DriverCall) (call : DriverCall) (own : Own) (program : Option ToldProgram) (context : Context)
    (recorded : List Effect) : Type 0 where
  pub stands : Stands kind config (call ∷ earlier) own program context
  pub effects : recorded ≡ effects_of kind config (call ∷ earlier)
  pub answered : is_answered kind config (call ∷ earlier) ≡ true

-- what a callback of a started driver did: which answers and effects it recorded, and that they are those of the call
pub record Did (kind : Kind) (callback : Callback) (old_own new_own : Own) (old_program new_program : Option ToldProgram) (old new : Context)
    (answer : List Effect) : Type 0 where
  pub answers : List Outside
  pub added : List Effect
  pub outside : new.outside ≡ old.outside ++ answers
  pub effects : new.effects ≡ old.effects ++ added
  pub follows : (config : Config) (earlier : List DriverCall) → Stands kind config earlier old_own old_program old
      → Follows kind config earlier (call_of callback old.caller answers (added ++ answer)) new_own new_program new (added ++ answer)

-- what `start` did
pub record Began (kind : Kind) (config : Config) (own : Own) (program : Option ToldProgram) (old new : Context) : Type 0 where
  pub added : List Effect
  pub outside : new.outside ≡ old.outside
  pub effects : new.effects ≡ old.effects ++ added
  pub follows : Follows kind config [] (call_of (start_of own) old.caller [] added) own program new added

-- what `stop` left: it asks nothing of the outside, has no effect, and leaves the queue
pub record Ended (kind : Kind) (old_own new_own : Own) (old_program new_program : Option ToldProgram) : Type 0 where
  pub follows : (config : Config) (earlier : List DriverCall) (context : Context) → Stands kind config earlier old_own old_program context
      → Follows kind config earlier (call_of Stop context.caller [] []) new_own new_program context []

-- a callback keeps the caller, and adds at most 131,072 entries to each list
pub record KeepsRoom (old new : Context) : Type 0 where
  pub caller : new.caller ≡ old.caller
  pub outside : length new.outside ≤ length old.outside + 131072
  pub effects : length new.effects ≤ length old.effects + 131072

-- a callback of a started driver may be called: each list of its context holds at most 524,288 entries
pub record MayCall (stage : Life) (context : Context) : Type 0 where
  pub started : stage ≡ Started
  pub outside : length context.outside ≤ 524288
  pub effects : length context.effects ≤ 524288

-- what a callback of a started driver keeps, also where it finds no memory: its kind, its stage and the room of its context; its count of faults doesn't
-- fall
pub record Keeps (old_kind new_kind : Kind) (old_faults new_faults : ℕ) (stage : Life) (old new : Context) : Type 0 where
  pub kind : new_kind ≡ old_kind
  pub faults : old_faults ≤ new_faults
  pub stage_is : stage ≡ Started
  pub room : KeepsRoom old new

-- The calls of a driver, and what it keeps. Lists of calls are read newest call first.
use Rattle.std.specs.Prelude.{ℕ, List, [], ◌∷◌, length, Bool, true, false}
use Rattle.port_config.specs.declared.config.Config.{Config}
use Rattle.port_model.specs.port_signal.declared.outside.Outside.{Outside}
use Rattle.port_model.specs.declared.effect.Effect.{Effect}
use Rattle.port_model.specs.declared.effect.Effect.TheVariants.{Message}

-- a callback, with its arguments: the two events of a program, the data of a command, an operation and its bytes, an event, a job's
-- number and its output, or a process that has ended
pub data Callback : Type 0 where
  Start : ℕ → ℕ → Callback
  Outputv : List ℕ → Callback
  Control : ℕ → List ℕ → Callback
  Call : ℕ → List ℕ → Callback
  ReadyInput : ℕ → Callback
  ReadyOutput : ℕ → Callback
  ReadyAsync : ℕ → List ℕ → Callback
  ProcessExit : ℕ → Callback
  Flush : Callback
  Stop : Callback

-- a call: its callback, the process whose signal is handled or else the owner, what the outside answered to the calls that the driver
-- made in it, and the lengths of the messages that it sent. These last fix how a stream was cut into messages, which nothing else does.
pub record DriverCall : Type 0 where
  pub callback : Callback
  pub caller : ℕ
  pub outside : List Outside
  pub cut : List ℕ

-- the lengths of the messages among these effects
abbrev pub cut_of : List Effect → List ℕ
cut_of [] = []
cut_of (Message flag bytes ∷ effects) = length bytes ∷ cut_of effects
cut_of (effect ∷ effects) = cut_of effects

-- a call with these answers and these effects
abbrev pub call_of : Callback → ℕ → List Outside → List Effect → DriverCall
call_of callback caller outside effects = record { callback = callback; caller = caller; outside = outside; cut = cut_of effects }

-- what the driver of a program keeps beside its queue: the options of its port, the program's two events, the bytes that no message has
-- yet, whether no more messages are found, how many bytes were taken from the program, whether it holds its port busy, and whether a call
-- of the program has failed
pub record Program : Type 0 where
  pub config : Config
  pub read : ℕ
  pub write : ℕ
  pub rest : List ℕ
  pub refused : Bool
  pub taken : ℕ
  pub busy : Bool
  pub failed : Bool

-- what a driver keeps beside its queue: nothing, how many commands it had and how many bytes these had, how many jobs it submitted, or a
-- program
pub data Own : Type 0 where
  Nothing : Own
  Counted : ℕ → ℕ → Own
  Submitted : ℕ → Own
  Running : Program → Own

-- the plain data that a driver holds, and the bytes of its queue
pub record Held : Type 0 where
  pub own : Own
  pub queue : List ℕ

-- no byte is queued
abbrev pub is_empty : List ℕ → Bool
is_empty [] = true
is_empty (byte ∷ bytes) = false

-- the kinds of driver
pub data Kind : Type 0 where
  Echo : Kind
  Tally : Kind
  -- whether it is soft-busy
  Valve : Bool → Kind
  Store : Kind
  Digest : Kind
  Spawn : Kind
  Refuse1 : Kind
  Refuse2 : Kind
  Refuse3 : Kind

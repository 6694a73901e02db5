-- The table of the kinds of driver: their names, which refuse to start, and what each holds and does, as functions of all calls so far.
use Rattle.std.specs.Prelude.{◌==◌, ◌+◌, ℕ, List, [], ◌∷◌, ◌++◌, Bool, true, false, not, filter, if◌then◌else◌, Option, Some, None, codes, nat_eq}
use Rattle.std.specs.List.{list_all, list_any}
use Rattle.port_config.specs.declared.config.Config.{Config}
use Rattle.port_model.specs.declared.effect.Effect.{Effect}
use Rattle.port_model.specs.declared.effect.Effect.TheVariants.{Select, Unuse, Async}
use Rattle.driver_model.specs.Calls.{Callback, Start, DriverCall, Own, Nothing, Counted, Submitted, Running, Held, Kind, Echo, Tally, Valve, Store, Digest, Spawn, Refuse1, Refuse2, Refuse3}
use Rattle.driver_model.specs.Echo.{echo_effects}
use Rattle.driver_model.specs.Tally.{commands, command_bytes, tally_effects}
use Rattle.driver_model.specs.Valve.{valve_effects}
use Rattle.driver_model.specs.Store.{stored, store_effects}
use Rattle.driver_model.specs.Digest.{submitted, digest_effects}
use Rattle.driver_model.specs.Spawn.{is_none, spawn_queue, program, spawn_effects, spawn_answered}

-- the name of a kind
abbrev pub kind_name : Kind → List ℕ
kind_name Echo = codes "echo"
kind_name Tally = codes "tally"
kind_name (Valve false) = codes "valve"
kind_name (Valve true) = codes "valve_soft"
kind_name Store = codes "store"
kind_name Digest = codes "digest"
kind_name Spawn = codes "spawn"
kind_name Refuse1 = codes "refuse1"
kind_name Refuse2 = codes "refuse2"
kind_name Refuse3 = codes "refuse3"

-- a driver of this kind takes forced commands while its port is busy
abbrev pub is_soft : Kind → Bool
is_soft (Valve soft) = soft
is_soft kind = false

-- how a driver refuses to start, but for a failure of the outside and want of memory: `driver_entry` names these three
pub data Refusal : Type 0 where
  General : Refusal
  Errno : Refusal
  Badarg : Refusal

-- the text has no word: it is spaces alone
abbrev pub is_blank : List ℕ → Bool
is_blank text = list_all (nat_eq 32) text

-- the refusal of a driver of this kind with this config
abbrev pub refusal_of : Kind → Config → Option Refusal
refusal_of Refuse1 config = Some General
refusal_of Refuse2 config = Some Errno
refusal_of Refuse3 config = Some Badarg
refusal_of Spawn config = if is_blank config.run then Some Badarg else None
refusal_of kind config = None

-- what a driver of this kind keeps beside its queue
abbrev pub own_of : Kind → Config → List DriverCall → Own
own_of Tally config calls = Counted (commands calls) (command_bytes calls)
own_of Digest config calls = Submitted (submitted calls)
own_of Spawn config calls = Running (program config calls)
own_of kind config calls = Nothing

-- the bytes that it has queued
abbrev pub queue_of : Kind → Config → List DriverCall → List ℕ
queue_of Store config calls = stored calls
queue_of Spawn config calls = spawn_queue config calls
queue_of kind config calls = []

-- what a driver of this kind holds after the calls
abbrev pub holds : Kind → Config → List DriverCall → Held
holds kind config calls = record { own = own_of kind config calls; queue = queue_of kind config calls }

-- the effects of a call after earlier ones. Drivers that refuse to start are never called
abbrev pub call_effects : Kind → Config → List DriverCall → DriverCall → List Effect
call_effects Echo config earlier call = echo_effects call.callback
call_effects Tally config earlier call = tally_effects call.caller (commands earlier) (command_bytes earlier) call.callback
call_effects (Valve soft) config earlier call = valve_effects call.callback
call_effects Store config earlier call = store_effects (stored earlier) call.callback
call_effects Digest config earlier call = digest_effects (submitted earlier) call.callback
call_effects Spawn config earlier call = spawn_effects config earlier call
call_effects kind config earlier call = []

-- the effects of the last call
abbrev pub effects_of : Kind → Config → List DriverCall → List Effect
effects_of kind config [] = []
effects_of kind config (call ∷ earlier) = call_effects kind config earlier call

-- the outside answered what a call after earlier ones asked for: no kind but spawn asks it
abbrev pub call_answered : Kind → Config → List DriverCall → DriverCall → Bool
call_answered Spawn config earlier call = spawn_answered config earlier call.outside call.callback
call_answered kind config earlier call = is_none call.outside

-- the outside answered what the last call asked for
abbrev pub is_answered : Kind → Config → List DriverCall → Bool
is_answered kind config [] = true
is_answered kind config (call ∷ earlier) = call_answered kind config earlier call

abbrev pub is_held : ℕ → List ℕ → Bool
is_held event held = list_any (λ other. other == event) held

-- with an event that is used, and without one that was given up
abbrev pub with_event : ℕ → List ℕ → List ℕ
with_event event held = if is_held event held then held else held ++ event ∷ []

abbrev pub without_event : ℕ → List ℕ → List ℕ
without_event event held = filter (λ other. not (other == event)) held

-- the events that these effects leave held, in the order in which they were first used
abbrev pub held_by : List Effect → List ℕ → List ℕ
held_by [] held = held
held_by (Select event dir on ∷ effects) held = held_by effects (with_event event held)
held_by (Unuse event ∷ effects) held = held_by effects (without_event event held)
held_by (effect ∷ effects) held = held_by effects held

-- the events that the driver holds after the calls, each once
abbrev pub held_events : Kind → Config → List DriverCall → List ℕ
held_events kind config [] = []
held_events kind config (call ∷ earlier) = held_by (effects_of kind config (call ∷ earlier)) (held_events kind config earlier)

-- how many jobs these effects submit
abbrev pub jobs_by : List Effect → ℕ
jobs_by [] = 0
jobs_by (Async number key code input ∷ effects) = 1 + jobs_by effects
jobs_by (effect ∷ effects) = jobs_by effects

-- how many jobs the driver submitted in the calls
abbrev pub job_count : Kind → Config → List DriverCall → ℕ
job_count kind config [] = 0
job_count kind config (call ∷ earlier) = job_count kind config earlier + jobs_by (effects_of kind config (call ∷ earlier))

-- the two events that a driver keeps of its program, 0 and 0 without one
abbrev pub read_event_of : Own → ℕ
read_event_of (Running program) = program.read
read_event_of own = 0

abbrev pub write_event_of : Own → ℕ
write_event_of (Running program) = program.write
write_event_of own = 0

-- the callback of `start`, with these two events
abbrev pub start_of : Own → Callback
start_of own = Start (read_event_of own) (write_event_of own)

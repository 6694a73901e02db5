-- The events of a driver, by the calls that were made on its selector.
use Rattle.std.specs.Prelude.{◌≡◌, ℕ, ◌==◌, Bool, true, false, ◌&&◌, ◌||◌, if◌then◌else◌, List, ◌∷◌, [], ◌++◌, Option, None}
use Rattle.port_model.specs.declared.event.Dir.{Dir}
use Rattle.port_model.specs.declared.event.Dir.TheVariants.{Read, Write}
use Rattle.ready_select.specs.declared.selector.Unused.{Unused}
use Rattle.ready_select.specs.declared.selector.Unused.TheVariants.{Now, Later}
use Rattle.ready_select.specs.declared.selector.Delivered.{Delivered}
use Rattle.ready_select.specs.declared.selector.Delivered.TheVariants as told
use Rattle.ready_select.specs.Latest.{latest, when}
use Rattle.ready_select.specs.Sets.{has, same_dir, in_dir, Events}

-- A call, with what it was told and what it answered. A refused `arm` changes nothing, and isn't among the calls.
pub data Call : Type 0 where
  Select : ℕ → Dir → Bool → Call
  Unuse : ℕ → Unused → Call
  Arm : ℕ → Dir → Call
  Deliver : ℕ → Dir → Delivered → Call
  Dropped : ℕ → Delivered → Call

-- whether a call begins or ends that an event is held: a `select` begins it, in whatever direction, and an `unuse` ends it
abbrev pub holds : ℕ → Call → Option Bool
holds event (Select e d on) = when (e == event) true
holds event (Unuse e answer) = when (e == event) false
holds event _ = None

-- that it waits: an `unuse` that answered `Later` begins it, and the poller's drop ends it
abbrev pub waits : ℕ → Call → Option Bool
waits event (Unuse e Later) = when (e == event) true
waits event (Dropped e told.Stopped) = when (e == event) false
waits event _ = None

-- that it is selected in a direction
abbrev pub selects : ℕ → Dir → Call → Option Bool
selects event dir (Select e d on) = when ((e == event) && same_dir d dir) on
selects event dir (Unuse e answer) = when (e == event) false
selects event dir _ = None

-- that it is armed in a direction: from an `arm` until its readiness is delivered, or the poller has dropped it
abbrev pub arms : ℕ → Dir → Call → Option Bool
arms event dir (Arm e d) = when ((e == event) && same_dir d dir) true
arms event dir (Deliver e d answer) = when ((e == event) && same_dir d dir) false
arms event dir (Dropped e told.Stopped) = when (e == event) false
arms event dir _ = None

-- an event is held, waits, is selected and is armed by the last of the calls that decides
abbrev pub is_held : List Call → ℕ → Bool
is_held calls event = latest (holds event) false calls

abbrev pub is_waiting : List Call → ℕ → Bool
is_waiting calls event = latest (waits event) false calls

abbrev pub is_selected : List Call → ℕ → Dir → Bool
is_selected calls event dir = latest (selects event dir) false calls

abbrev pub is_armed : List Call → ℕ → Dir → Bool
is_armed calls event dir = latest (arms event dir) false calls

-- what the calls answer
abbrev pub unused : List Call → ℕ → Unused
unused calls event = if is_armed calls event Read || is_armed calls event Write then Later else Now

abbrev pub delivered : List Call → ℕ → Dir → Delivered
delivered calls event dir = if is_selected calls event dir && is_armed calls event dir then told.Call else told.Stale

abbrev pub dropped : List Call → ℕ → Delivered
dropped calls event = if is_waiting calls event then told.Stopped else told.Stale

-- These are the events after the calls, made one after another on a new selector. An event that waits isn't held, since it can't be
-- selected meanwhile
pub record IsAfter (calls : List Call) (events : Events) : Type 0 where
  pub listed : (event : ℕ) → has event events.listed ≡ (is_held calls event || is_waiting calls event)
  pub waiting : (event : ℕ) → has event events.waiting ≡ is_waiting calls event
  pub selected : (event : ℕ) (dir : Dir) → has event (in_dir dir events.selected) ≡ is_selected calls event dir
  pub armed : (event : ℕ) (dir : Dir) → has event (in_dir dir events.armed) ≡ is_armed calls event dir
  pub apart : (event : ℕ) → (is_held calls event && is_waiting calls event) ≡ false

-- the call was made: whatever calls led to the old events, those and this call lead to the new ones
abbrev pub Makes : Events → Events → Call → Type 0
Makes old new call = (calls : List Call) → IsAfter calls old → IsAfter (calls ++ call ∷ []) new

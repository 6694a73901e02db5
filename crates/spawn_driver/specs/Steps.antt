-- What the driver of a program does with its queue and what it keeps, by the answers of its program.
use Rattle.std.specs.Prelude.{◌≡◌, ◌+◌, ℕ, List, [], ◌∷◌, ◌++◌, ◌⊎◌, length, drop, map, true, false, ◌&&◌, ◌||◌, nat_le, nat_lt, if◌then◌else◌, codes, Option, None, Some}
use Rattle.port_signal.specs.declared.outside.Outside.{Outside}
use Rattle.port_signal.specs.declared.outside.Outside.TheVariants.{Took, Got, End, Failed, Status}
use Rattle.packet_framing.specs.Frames.{frame_of}
use Rattle.packet_framing.specs.Messages.{last_message}
use Rattle.packet_framing.specs.Unframed.{Unframes, HasOversize}
use Rattle.outside.specs.declared.child.StatusGot.{StatusGot}
use Rattle.outside.specs.declared.child.StatusGot.TheVariants as got
use Rattle.port_model.specs.declared.event.Dir.TheVariants.{Read}
use Rattle.port_model.specs.declared.effect.Effect.{Effect}
use Rattle.port_model.specs.declared.effect.Effect.TheVariants.{Eof, Select, Fail}
use Rattle.driver_model.specs.Calls.{Program, is_empty}
use Rattle.driver_model.specs.Spawn.{fits, has_failed, most_taken, sent, status_effects}
use Rattle.port_driver.specs.Context.{Context}
use Rattle.spawn_driver.specs.declared.unframing.Found.{Found}
use Rattle.spawn_driver.specs.declared.unframing.Found.TheVariants.{Messages, TooMany, Oversize}
use Rattle.spawn_driver.specs.Recorded.{with_effects, write_selected, write_deselected, busy_set, busy_cleared}

-- a frame was queued: the write event is selected and the port busy by the bytes that are queued then
pub record QueuesFrame (framed : List ℕ) (old new : Program) (before after : Context) : Type 0 where
  pub queue : after.queue ≡ (if old.failed then before.queue else before.queue ++ framed)
  pub program : new ≡ record old { busy = old.busy || nat_le old.config.busy_high (length after.queue) }
  pub context : after ≡ record (with_effects before (write_selected old.write (is_empty before.queue) after.queue ++ busy_set old.config.busy_high old.busy after.queue))
      { queue = after.queue }

-- the data of a command was framed and queued, where a frame can have it
pub record Queues (bytes : List ℕ) (old new : Program) (before after : Context) : Type 0 where
  pub framed : fits old.config.mode (length bytes) ≡ true → QueuesFrame (frame_of old.config.mode bytes) old new before after
  pub refused : fits old.config.mode (length bytes) ≡ false → (new ≡ old) × (after ≡ with_effects before (Fail (codes "einval") ∷ []))

-- so many bytes were dropped from the queue: the port is free and the write event deselected by the bytes that are queued then
pub record Takes (count : ℕ) (old new : Program) (before after : Context) : Type 0 where
  pub queue : after.queue ≡ drop count before.queue
  pub program : new ≡ record old { busy = old.busy && nat_le old.config.busy_low (length after.queue) }
  pub context : after ≡ record (with_effects before (busy_cleared old.config.busy_low old.busy after.queue ++ write_deselected old.write after.queue))
      { queue = after.queue; outside = before.outside ++ Took count ∷ [] }

-- the effects of what was found in bytes
abbrev pub effects_in : Found → List Effect
effects_in (Messages messages) = map sent messages.items
effects_in TooMany = Fail (codes "enospc") ∷ []
effects_in Oversize = Fail (codes "emsgsize") ∷ []

-- bytes that `taken` counts already bring these messages; or too many were taken, or a header tells too many or did before, and no more
-- messages are found then
abbrev pub Finds : Program → Program → List ℕ → Found → Type 0
Finds old new bytes (Messages messages) =
    (nat_lt most_taken old.taken ≡ false) × (old.refused ≡ false) × Unframes old.config.mode (old.rest ++ bytes) messages.items new.rest
    × (new ≡ record old { rest = new.rest })
Finds old new bytes TooMany = (nat_lt most_taken old.taken ≡ true) × (new ≡ record old { rest = []; refused = true })
Finds old new bytes Oversize =
    (nat_lt most_taken old.taken ≡ false) × (new ≡ record old { rest = []; refused = true })
    × ((old.refused ≡ true) ⊎ ((len : ℕ) × HasOversize old.config.mode (old.rest ++ bytes) len))

-- bytes were taken, and what they bring was sent
pub record Receives (bytes : List ℕ) (old new : Program) (before after : Context) : Type 0 where
  pub found : Found
  pub finds : Finds (record old { taken = old.taken + length bytes }) new bytes found
  pub context : after ≡ record (with_effects before (effects_in found)) { outside = before.outside ++ Got bytes ∷ [] }

-- the last message was sent, and no rest is left
pub record SendsLast (old new : Program) (before after : Context) : Type 0 where
  pub program : new ≡ record old { rest = [] }
  pub context : after ≡ with_effects before (map sent (last_message old.config.mode old.rest))

-- the answer to a question for the status, if it was asked
abbrev pub answers_to : Option StatusGot → List Outside
answers_to None = []
answers_to (Some (got.Ended status)) = Status status ∷ []
answers_to (Some got.Failed) = Failed ∷ []

-- the queue once these answers came
abbrev pub queue_kept : List Outside → List ℕ → List ℕ
queue_kept answers queue = if has_failed answers then [] else queue

-- the status was sent, or the call for it failed
pub record TellsStatus (answers : List Outside) (old new : Program) (before after : Context) : Type 0 where
  pub program : new ≡ record old { failed = has_failed answers || old.failed }
  pub context : after ≡ record (with_effects before (status_effects answers)) { queue = queue_kept answers before.queue }

-- the effects of the end of the output behind the last message
abbrev pub closing_effects : Program → List Outside → List Effect
closing_effects program answers =
    (if program.config.eof then Eof ∷ [] else [])
    ++ (status_effects answers
    ++ (Select program.read Read false ∷ (if program.config.eof || has_failed answers then [] else Fail (codes "normal") ∷ [])))

-- the end of the output was told
pub record Ends (answers : List Outside) (old new : Program) (before after : Context) : Type 0 where
  pub program : new ≡ record old { rest = []; failed = has_failed answers || old.failed }
  pub context : after ≡ record (with_effects before (map sent (last_message old.config.mode old.rest) ++ closing_effects old answers))
      { queue = queue_kept answers before.queue; outside = before.outside ++ End ∷ answers }

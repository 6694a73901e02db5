-- What a part of a callback records in its context.
use Rattle.std.specs.Prelude.{◌≡◌, ◌≤◌, ◌+◌, ℕ, List, [], ◌∷◌, ◌++◌, length, Bool, true, false, ◌&&◌, not, nat_le, nat_lt, if◌then◌else◌}
use Rattle.port_signal.specs.declared.outside.Outside.{Outside}
use Rattle.port_model.specs.declared.event.Dir.TheVariants.{Write}
use Rattle.port_model.specs.declared.effect.Effect.{Effect}
use Rattle.port_model.specs.declared.effect.Effect.TheVariants.{Busy, Select}
use Rattle.driver_model.specs.Calls.{is_empty}
use Rattle.driver_model.specs.Drivers.{held_by}
use Rattle.port_driver.specs.Context.{Context}

-- the context with these effects more, which submit no job
abbrev pub with_effects : Context → List Effect → Context
with_effects context added = record context { effects = context.effects ++ added; held = held_by added context.held }

-- the context with these answers more
abbrev pub with_answers : Context → List Outside → Context
with_answers context answers = record context { outside = context.outside ++ answers }

-- the caller stays, and each list got at most so many entries
pub record Adds (most : ℕ) (old new : Context) : Type 0 where
  pub caller : new.caller ≡ old.caller
  pub outside : length new.outside ≤ length old.outside + most
  pub effects : length new.effects ≤ length old.effects + most

-- the write event is selected where bytes came into an empty queue
abbrev pub write_selected : ℕ → Bool → List ℕ → List Effect
write_selected event was_empty queue = if was_empty && not (is_empty queue) then Select event Write true ∷ [] else []

-- and deselected where nothing is queued
abbrev pub write_deselected : ℕ → List ℕ → List Effect
write_deselected event queue = if is_empty queue then Select event Write false ∷ [] else []

-- the port becomes busy where so many bytes are queued
abbrev pub busy_set : ℕ → Bool → List ℕ → List Effect
busy_set high busy queue = if nat_le high (length queue) && not busy then Busy true ∷ [] else []

-- and free where fewer are queued
abbrev pub busy_cleared : ℕ → Bool → List ℕ → List Effect
busy_cleared low busy queue = if busy && nat_lt (length queue) low then Busy false ∷ [] else []

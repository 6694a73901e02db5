-- What a callback of a driver is handed.
use Rattle.std.specs.Prelude.{◌≡◌, ℕ, List, Bool, true, [], ◌∷◌, ◌++◌, ◌&&◌, not, nat_le, length}
use Rattle.driver_model.specs.port_model.port_signal.declared.outside.Outside.{Outside}
use Rattle.driver_model.specs.port_model.declared.effect.Effect.{Effect}
use Rattle.driver_model.specs.Drivers.{is_held}
use Rattle.port_driver.specs.declared.context.SelectFault.{SelectFault}
use Rattle.port_driver.specs.declared.context.SelectFault.TheVariants.{Full, NoMemory}

-- the process whose signal is handled, or else the owner; the number of the port's next job; the events that the driver holds, each
-- once; the bytes of its queue; and the outside's answers and the effects so far
pub record Context : Type 0 where
  pub caller : ℕ
  pub next_job : ℕ
  pub held : List ℕ
  pub queue : List ℕ
  pub outside : List Outside
  pub effects : List Effect

-- 64 other events are held
abbrev pub is_full : ℕ → List ℕ → Bool
is_full event held = not (is_held event held) && nat_le 64 (length held)

-- the same events, whatever their order
pub record SameEvents (held events : List ℕ) : Type 0 where
  pub each : (event : ℕ) → is_held event held ≡ is_held event events
  pub count : length held ≡ length events

-- one more effect
abbrev pub did : Context → Effect → Context
did context effect = record context { effects = context.effects ++ effect ∷ [] }

-- why an event wasn't selected: 64 others are held, or memory was wanting
abbrev pub SelectFails : ℕ → List ℕ → SelectFault → Type 0
SelectFails event held (Full count) = (is_full event held ≡ true) × (count ≡ 64)
SelectFails event held NoMemory = Unit {0}

-- How many failures a driver's outside answered, and by how much its count of faults rose.
use Rattle.std.specs.Prelude.{◌≤◌, ◌+◌, ◌-◌, ◌^◌, ℕ, min, List, [], ◌∷◌}
use Rattle.driver_model.specs.port_model.port_signal.declared.outside.Outside.{Outside}
use Rattle.driver_model.specs.port_model.port_signal.declared.outside.Outside.TheVariants.{Failed}
use Rattle.driver_model.specs.port_model.declared.row.Row.{Row}
use Rattle.driver_model.specs.port_model.declared.row.Row.TheVariants.{Handled}

-- how many of these answers are failures
abbrev pub failures : List Outside → ℕ
failures [] = 0
failures (Failed ∷ answers) = failures answers + 1
failures (answer ∷ answers) = failures answers

-- how many failures these rows tell
abbrev pub failures_in : List Row → ℕ
failures_in [] = 0
failures_in (Handled from seq task outside effects ∷ rows) = failures outside + failures_in rows
failures_in (row ∷ rows) = failures_in rows

-- a count of faults rose by as many failures, or stands at its end, the greatest `u64`
abbrev pub RisenBy : ℕ → ℕ → ℕ → Type 0
RisenBy failed before after = min (before + failed) (2 ^ 64 - 1) ≤ after

-- it rose by the failures among the answers that came behind the old ones
abbrev pub CountsFailures : List Outside → List Outside → ℕ → ℕ → Type 0
CountsFailures old new before after = RisenBy (failures new - failures old) before after

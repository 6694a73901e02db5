-- The kinds of driver that may have a history.
use Rattle.std.specs.Prelude.{◌≡◌, ℕ, List, false, true}
use Rattle.driver_model.specs.Calls as driver
use Rattle.driver_model.specs.Drivers.{kind_name}
use Rattle.history_driver.specs.declared.kind.DriverKind.{DriverKind}
use Rattle.history_driver.specs.declared.kind.DriverKind.TheVariants.{Echo, Tally, Valve, SoftValve, Store, Digest, Spawn}

abbrev pub kind_of : DriverKind → driver.Kind
kind_of Echo = driver.Echo
kind_of Tally = driver.Tally
kind_of Valve = driver.Valve false
kind_of SoftValve = driver.Valve true
kind_of Store = driver.Store
kind_of Digest = driver.Digest
kind_of Spawn = driver.Spawn

-- no kind has this name
abbrev pub IsNoName : List ℕ → Type 0
IsNoName name = (kind : DriverKind) → kind_name (kind_of kind) ≡ name → ⊥

-- the kind of the drivers of programs
abbrev pub IsSpawn : DriverKind → Type 0
IsSpawn kind = kind ≡ Spawn

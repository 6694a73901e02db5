-- The drivers that are handed to a run.
use Rattle.std.specs.Prelude.{◌≡◌, ℕ, List, Bool, false, None, count_by, IsSomeAnd}
use Rattle.std.specs.Option.{option_map_or}
use Rattle.std.specs.Str.{bytes_eq}
use Rattle.port_driver.specs.driver_model.Calls.{Kind}
use Rattle.port_driver.specs.driver_model.Drivers.{kind_name}
use Rattle.port_driver.specs.declared.life.Life.{Life}
use Rattle.port_driver.specs.declared.life.Life.TheVariants.{Fresh}
use Rattle.driver_hosts.specs.declared.hosted.Hosted.{Hosted}

module _ {D : Type 0} where
  -- a driver that serves no port, and wasn't started
  abbrev pub IsUnused : (D → Life) → Hosted D → Type 0
  IsUnused stage host = (host.port ≡ None) × IsSomeAnd host.driver (λ d. stage d ≡ Fresh)

  -- a driver of the kind of this name
  abbrev pub is_named : (D → Kind) → List ℕ → Hosted D → Bool
  is_named kind name host = option_map_or (λ d. bytes_eq (kind_name (kind d)) name) host.driver false

  -- how many drivers have this name
  abbrev pub named_count : (D → Kind) → List ℕ → List (Hosted D) → ℕ
  named_count kind name hosts = count_by (is_named kind name) hosts

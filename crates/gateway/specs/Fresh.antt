-- Drivers as a run takes them.
use Rattle.std.specs.Prelude.{List, map, filter, Bool, true, false, Some, None}
use Rattle.port_driver.specs.declared.life.Life.{Life}
use Rattle.port_driver.specs.declared.life.Life.TheVariants.{Fresh, Started, Stopped}
use Rattle.driver_hosts.specs.declared.hosted.Hosted.{Hosted}

-- the driver wasn't started
abbrev pub is_fresh : Life → Bool
is_fresh Fresh = true
is_fresh Started = false
is_fresh Stopped = false

module _ {D : Type 0} where
  -- a driver that serves no port
  abbrev pub unserving : D → Hosted D
  unserving driver = record { port = None; driver = Some driver }

  -- those of the drivers that weren't started, in their order
  abbrev pub hosted : (D → Life) → List D → List (Hosted D)
  hosted stage drivers = map unserving (filter (λ driver. is_fresh (stage driver)) drivers)

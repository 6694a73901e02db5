-- How the drivers that are handed to a run come back.
use Rattle.std.specs.Prelude.{◌≡◌, ◌≢◌, ℕ, ◌<◌, ◌≤◌, ◌⊎◌, List, length, Option, Some, None, slice_index, slice_index_or}
use Rattle.port_driver.specs.driver_model.Calls.{Kind}
use Rattle.port_driver.specs.port_config.declared.config.Config.{Config}
use Rattle.port_driver.specs.Starting.{Refuses}
use Rattle.port_driver.specs.declared.life.Life.{Life}
use Rattle.port_driver.specs.declared.life.Life.TheVariants.{Fresh, Stopped}
use Rattle.port_driver.specs.declared.life.StartRefusal.{StartRefusal}
use Rattle.script_plan.specs.declared.decl.PortDecl.{PortDecl}
use Rattle.driver_hosts.specs.declared.hosted.Hosted.{Hosted}
use Rattle.driver_hosts.specs.declared.opening.Unopened.{Unopened}
use Rattle.driver_hosts.specs.declared.opening.Unopened.TheVariants.{Refused, NoMemory}

module _ {D : Type 0} (kind : D → Kind) (stage : D → Life) (faults : D → ℕ) where
  -- a driver was handed in without a port, and is back with this one, or with none: of the same kind, and with no fewer faults
  pub record IsBack (port : Option ℕ) (old new : Hosted D) (before after : D) : Type 0 where
    pub handed : old ≡ record { port = None; driver = Some before }
    pub returned : new ≡ record { port = port; driver = Some after }
    pub same_kind : kind after ≡ kind before
    pub no_fewer_faults : faults before ≤ faults after

  -- it served this port, and is stopped
  pub record HasServed (port : ℕ) (old new : Hosted D) : Type 0 where
    pub before : D
    pub after : D
    pub back : IsBack (Some port) old new before after
    pub stopped : stage after ≡ Stopped

  -- it didn't start, with these options: it refused so, or memory was wanting. It is stopped, or it wasn't called
  pub record HasNotStarted (config : Config) (refusal : StartRefusal) (old new : Hosted D) : Type 0 where
    pub before : D
    pub after : D
    pub back : IsBack None old new before after
    pub refuses : Refuses (kind before) config (faults before) (faults after) refusal
    pub at_rest : (stage after ≡ Fresh) ⊎ (stage after ≡ Stopped)

  -- the drivers at these places served the ports, in the order of the ports, and each other driver is as it was handed in
  pub record HaveServed (places : List ℕ) (old new : List (Hosted D)) : Type 0 where
    pub len : length new ≡ length old
    pub served : (port : ℕ) (d : Hosted D) → port < length places
        → HasServed port (slice_index_or old (slice_index places port) d) (slice_index_or new (slice_index places port) d)
    pub others : (at : ℕ) (d : Hosted D) → ((port : ℕ) → port < length places → slice_index places port ≢ at) → slice_index_or new at d ≡ slice_index_or old at d

  -- the drivers of the ports before this one served them, the driver of this port didn't start, and each other driver is as it was handed in
  pub record ServedBefore (ports : List PortDecl) (places : List ℕ) (at : ℕ) (refusal : StartRefusal) (old new : List (Hosted D)) : Type 0 where
    pub len : length new ≡ length old
    pub served : (port : ℕ) (d : Hosted D) → port < at
        → HasServed port (slice_index_or old (slice_index places port) d) (slice_index_or new (slice_index places port) d)
    pub unstarted : (p : PortDecl) (d : Hosted D)
        → HasNotStarted (slice_index_or ports at p).config refusal (slice_index_or old (slice_index places at) d) (slice_index_or new (slice_index places at) d)
    pub others : (place : ℕ) (d : Hosted D) → ((port : ℕ) → port ≤ at → slice_index places port ≢ place) → slice_index_or new place d ≡ slice_index_or old place d

  -- how the drivers come back where the ports weren't opened
  abbrev pub AreBack : List PortDecl → List ℕ → List (Hosted D) → List (Hosted D) → Unopened → Type 0
  AreBack ports places old new (Refused at line refusal) = ServedBefore ports places at refusal old new
  AreBack ports places old new NoMemory = new ≡ old

  -- the driver came back, fresh or stopped: with the number of the port that it served, or with none
  pub record CameBack (old new : Hosted D) : Type 0 where
    pub port : Option ℕ
    pub before : D
    pub after : D
    pub back : IsBack port old new before after
    pub at_rest : (stage after ≡ Fresh) ⊎ (stage after ≡ Stopped)

  -- all drivers came back, in the order in which they were handed in
  pub record AllCameBack (old new : List (Hosted D)) : Type 0 where
    pub len : length new ≡ length old
    pub hosts : (at : ℕ) (d : Hosted D) → at < length old → CameBack (slice_index_or old at d) (slice_index_or new at d)

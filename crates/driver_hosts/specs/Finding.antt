-- Which driver each port gets.
use Rattle.std.specs.Prelude.{◌≡◌, ◌≢◌, ℕ, ◌<◌, List, length, take, true, count_by, All, AllPairs, slice_index, slice_index_or, unwrap_or}
use Rattle.std.specs.HashMap.{HashMap, get_by}
use Rattle.std.specs.Str.{bytes_eq}
use denote.Ref.{Bor}
use Rattle.port_driver.specs.driver_model.Calls.{Kind}
use Rattle.script_plan.specs.declared.decl.PortDecl.{PortDecl}
use Rattle.driver_hosts.specs.declared.hosted.Hosted.{Hosted}
use Rattle.driver_hosts.specs.declared.finding.Lacking.{Lacking}
use Rattle.driver_hosts.specs.declared.finding.Lacking.TheVariants.{NoDriver, NoMemory}
use Rattle.driver_hosts.specs.Hosts.{is_named, named_count}

-- how many of the ports before this one want a driver of this name
abbrev pub wanted_before : List PortDecl → ℕ → List ℕ → ℕ
wanted_before ports port name = count_by (λ (p : PortDecl). bytes_eq p.driver name) (take port ports)

-- the name of the driver that this port wants
abbrev pub wanted : List PortDecl → ℕ → PortDecl → List ℕ
wanted ports port p = (slice_index_or ports port p).driver

-- where the search for the next driver of a name goes on: behind the last one that a port got, and from the start at first
abbrev pub next_of : {S : Type 0} → HashMap (Bor (List ℕ)) ℕ S → List ℕ → ℕ
next_of behind name = unwrap_or (get_by (λ (key : Bor (List ℕ)). bytes_eq name key.now) behind) 0

module _ {D : Type 0} where
  -- the place of each port's driver: the first driver of the port's name that isn't the driver of an earlier port
  pub record Found (kind : D → Kind) (hosts : List (Hosted D)) (ports : List PortDecl) (places : List ℕ) : Type 0 where
    pub len : length places ≡ length ports
    pub within : All (λ at. at < length hosts) places
    pub different : AllPairs (λ at later. at ≢ later) places
    pub named : (port : ℕ) (p : PortDecl) (d : Hosted D) → port < length places → is_named kind (wanted ports port p) (slice_index_or hosts (slice_index places port) d) ≡ true
    pub first : (port at : ℕ) (p : PortDecl) (d : Hosted D) → port < length places → at < slice_index places port
        → is_named kind (wanted ports port p) (slice_index_or hosts at d) ≡ true → (earlier : ℕ) × (earlier < port) × (slice_index places earlier ≡ at)

  -- more drivers of this port's name were handed in than ports before it want
  abbrev pub HasDriver : (D → Kind) → List (Hosted D) → List PortDecl → ℕ → Type 0
  HasDriver kind hosts ports port = (p : PortDecl) → wanted_before ports port (wanted ports port p) < named_count kind (wanted ports port p) hosts

  -- so it is for each port
  abbrev pub HasDrivers : (D → Kind) → List (Hosted D) → List PortDecl → Type 0
  HasDrivers kind hosts ports = (port : ℕ) → port < length ports → HasDriver kind hosts ports port

  -- no driver is left for this port, and it is the first such: as many as have its name were handed in as ports before it want, which got them
  pub record LacksDriver (kind : D → Kind) (hosts : List (Hosted D)) (ports : List PortDecl) (at handed : ℕ) : Type 0 where
    pub within : at < length ports
    pub counted : (p : PortDecl) → handed ≡ named_count kind (wanted ports at p) hosts
    pub taken : (p : PortDecl) → handed ≡ wanted_before ports at (wanted ports at p)
    pub before : (port : ℕ) → port < at → HasDriver kind hosts ports port

  -- why the ports don't get their drivers
  abbrev pub Lacks : (D → Kind) → List (Hosted D) → List PortDecl → Lacking → Type 0
  Lacks kind hosts ports (NoDriver at handed) = LacksDriver kind hosts ports at handed
  Lacks kind hosts ports NoMemory = Unit {0}

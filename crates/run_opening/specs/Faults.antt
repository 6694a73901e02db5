-- Why the ports of a run weren't opened.
use Rattle.std.specs.Prelude.{◌≡◌, ℕ, List, slice_index_or}
use Rattle.driver_hosts.specs.driver_model.Calls.{Kind}
use Rattle.driver_hosts.specs.port_driver.declared.life.Life.{Life}
use Rattle.driver_hosts.specs.port_driver.declared.life.StartRefusal.{StartRefusal}
use Rattle.driver_hosts.specs.port_driver.declared.life.StartRefusal.TheVariants as start
use Rattle.script_plan.specs.declared.decl.PortDecl.{PortDecl}
use Rattle.driver_hosts.specs.declared.hosted.Hosted.{Hosted}
use Rattle.driver_hosts.specs.declared.finding.Lacking.{Lacking}
use Rattle.driver_hosts.specs.declared.finding.Lacking.TheVariants as lacking
use Rattle.driver_hosts.specs.declared.opening.Unopened.{Unopened}
use Rattle.driver_hosts.specs.declared.opening.Unopened.TheVariants as unopened
use Rattle.driver_hosts.specs.Finding.{Found, LacksDriver}
use Rattle.driver_hosts.specs.Opening.{HasRefused}
use Rattle.driver_hosts.specs.Back.{ServedBefore}
use Rattle.run_opening.specs.declared.opening.OpenFault.{OpenFault}
use Rattle.run_opening.specs.declared.opening.OpenFault.TheVariants as fault

-- how a port that gets no driver is told of
abbrev pub IsFaultOf : List PortDecl → Lacking → OpenFault → Type 0
IsFaultOf ports (lacking.NoDriver at handed) f = (line : ℕ) × (f ≡ fault.NoDriver line handed) × ((p : PortDecl) → line ≡ (slice_index_or ports at p).line)
IsFaultOf ports lacking.NoMemory f = f ≡ fault.NoMemory

-- how a driver is told of that doesn't start. One that finds no memory isn't told of
abbrev pub IsRefusalOf : Unopened → OpenFault → Type 0
IsRefusalOf (unopened.Refused at line start.NoMemory) f = f ≡ fault.NoMemory
IsRefusalOf (unopened.Refused at line refusal) f = f ≡ fault.StartRefused line refusal
IsRefusalOf unopened.NoMemory f = f ≡ fault.NoMemory

-- the driver refused by itself
abbrev pub IsOfDriver : StartRefusal → Type 0
IsOfDriver start.NoMemory = ⊥
IsOfDriver refusal = Unit {0}

module _ {D : Type 0} (kind : D → Kind) (stage : D → Life) (faults : D → ℕ) where
  -- no driver is left for the port on this line, the first such
  pub record LacksAt (ports : List PortDecl) (hosts : List (Hosted D)) (line handed : ℕ) : Type 0 where
    pub at : ℕ
    pub line_is : (p : PortDecl) → line ≡ (slice_index_or ports at p).line
    pub lacks : LacksDriver kind hosts ports at handed

  -- the driver that was found for the port on this line refused, those of the earlier ports served them, and the others are as they were
  pub record RefusedAt (ports : List PortDecl) (old new : List (Hosted D)) (line : ℕ) (refusal : StartRefusal) : Type 0 where
    pub places : List ℕ
    pub at : ℕ
    pub found : Found kind old ports places
    pub refused : HasRefused kind ports places old at line
    pub served : ServedBefore kind stage faults ports places at refusal old new
    pub own : IsOfDriver refusal

  -- why the ports weren't opened
  abbrev pub AreNotOpened : List PortDecl → List (Hosted D) → List (Hosted D) → OpenFault → Type 0
  AreNotOpened ports old new (fault.NoDriver line handed) = LacksAt ports old line handed × (new ≡ old)
  AreNotOpened ports old new (fault.StartRefused line refusal) = RefusedAt ports old new line refusal
  AreNotOpened ports old new fault.NoMemory = Unit {0}

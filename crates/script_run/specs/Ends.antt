-- Why a run of a script isn't made, and how its poll set comes back.
use Rattle.std.specs.Prelude.{◌≡◌, ℕ, List, Option, Some, Result, Ok, Err}
use Rattle.driver_model.specs.Calls.{Kind}
use Rattle.outside.specs.Causes.{Rose}
use Rattle.port_driver.specs.declared.life.Life.{Life}
use Rattle.script_plan.specs.declared.decl.PortDecl.{PortDecl}
use Rattle.driver_hosts.specs.declared.hosted.Hosted.{Hosted}
use Rattle.driver_hosts.specs.Back.{HaveServed}
use Rattle.driver_hosts.specs.Finding.{Found}
use Rattle.seated_script.specs.run_opening.declared.opening.OpenFault.{OpenFault}
use Rattle.seated_script.specs.run_opening.declared.opening.OpenFault.TheVariants as opening
use Rattle.seated_script.specs.run_opening.Faults.{LacksAt, RefusedAt}
use Rattle.seated_script.specs.run_opening.run_seats.threaded_jobs.declared.ended.Stop.{Stop}
use Rattle.seated_script.specs.run_opening.run_seats.threaded_jobs.declared.ended.Stop.TheVariants as stop
use Rattle.script_run.specs.declared.running.RunFault.{RunFault}
use Rattle.script_run.specs.declared.running.RunFault.TheVariants.{NoDriver, StartRefused, PollFault, NoMemory}
use Rattle.script_run.specs.declared.running.ScriptRan.{ScriptRan}

-- why a run isn't made whose ports weren't opened, or which somebody stopped
abbrev pub unopened : OpenFault → RunFault
unopened (opening.NoDriver line handed) = NoDriver line handed
unopened (opening.StartRefused line refusal) = StartRefused line refusal
unopened opening.NoMemory = NoMemory

abbrev pub stopped : Stop → RunFault
stopped stop.PollFault = PollFault
stopped stop.NoMemory = NoMemory

module _ {D : Type 0} where
  -- the drivers that the search finds for the ports are back, each with its port and stopped, and the others are as they were handed in
  pub record HaveAllServed (kind : D → Kind) (stage : D → Life) (faults : D → ℕ) (ports : List PortDecl) (old new : List (Hosted D)) : Type 0 where
    pub places : List ℕ
    pub found : Found kind old ports places
    pub served : HaveServed kind stage faults places old new

  -- no driver is left for a port, and then none was touched; or the driver that was found for a port refused. A fault of the poll set may come of any run whose ports were opened, and want of memory of any
  abbrev pub IsNotRun : (D → Kind) → (D → Life) → (D → ℕ) → List PortDecl → List (Hosted D) → List (Hosted D) → RunFault → Type 0
  IsNotRun kind stage faults ports old new (NoDriver line handed) = LacksAt kind stage faults ports old line handed × (new ≡ old)
  IsNotRun kind stage faults ports old new (StartRefused line refusal) = RefusedAt kind stage faults ports old new line refusal
  IsNotRun kind stage faults ports old new PollFault = HaveAllServed kind stage faults ports old new
  IsNotRun kind stage faults ports old new NoMemory = Unit {0}

module _ {S : Type 0} where
  -- the poll set comes back, and no wait of it failed in a run that was made; where the cause is its fault, one did. Only where memory was wanting it may be gone
  abbrev pub PollIsBack : (S → ℕ) → S → Result ScriptRan RunFault → Option S → Type 0
  PollIsBack faults old (Ok ran) new = (poll : S) × (new ≡ Some poll) × (faults poll ≡ faults old)
  PollIsBack faults old (Err (NoDriver line handed)) new = new ≡ Some old
  PollIsBack faults old (Err (StartRefused line refusal)) new = new ≡ Some old
  PollIsBack faults old (Err PollFault) new = (poll : S) × (new ≡ Some poll) × Rose (faults old) (faults poll)
  PollIsBack faults old (Err NoMemory) new = Unit {0}

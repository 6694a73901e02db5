-- A run from its beginning to its end.
use Rattle.std.proofs.Common.{◌≡◌, ℕ, List, length, map, Option, Some, Result, Ok, Err, refl, sym, ap, subst, arith}
use Rattle.std.specs.Prelude.{IfOk, MatchResult}
use Rattle.std.proofs.lemmas.List.{length-map}
use Rattle.driver_model.specs.Calls.{Kind, Own}
use Rattle.driver_model.specs.Programs.{ToldProgram}
use Rattle.port_driver.specs.declared.life.Life.{Life}
use Rattle.port_sched.specs.declared.body.PortBody.{Ghosts}
use Rattle.port_body.specs.Body.{BodyView, name_of}
use Rattle.driver_hosts.specs.declared.hosted.Hosted.{Hosted}
use Rattle.no_memory.specs.declared.NoMemory.{NoMemory as Wanting}
use Rattle.seated_script.specs.run_opening.declared.run_script.RunScript.{RunScript}
use Rattle.script_plan.specs.declared.decl.PortDecl.{PortDecl}
use Rattle.seated_script.specs.run_opening.Setting.{AreNamedIn}
use Rattle.seated_script.specs.declared.seating.SeatedScript.{SeatedScript}
use Rattle.seated_script.specs.Seated.{IsSeatedScript}
use Rattle.ended_jobs.specs.Ended.{HaveEndedFor, StopComes}
use Rattle.seated_script.specs.run_opening.run_seats.threaded_jobs.declared.ended.EndedJobs.{EndedJobs}
use Rattle.seated_script.specs.run_opening.run_seats.threaded_jobs.declared.ended.Stop.{Stop}
use Rattle.seated_script.specs.run_opening.run_seats.threaded_jobs.declared.ended.Stop.TheVariants as stop
use Rattle.script_run.specs.declared.running.RunFault.{RunFault}
use Rattle.script_run.specs.declared.running.RunFault.TheVariants as fault
use Rattle.script_run.specs.declared.running.ScriptRan.{ScriptRan}
use Rattle.script_run.specs.Ends.{HaveAllServed, IsNotRun, PollIsBack, stopped}
use Rattle.script_run.specs.Left.{HasEndedIn}

module _ {S : Type 0} (faults : S → ℕ) where
  -- a run that was stopped
  pub poll-stopped : (old new : S) (why : Stop) (f : RunFault) → f ≡ stopped why → StopComes faults old why new → PollIsBack faults old (Err f) (Some new)
  poll-stopped old new stop.PollFault f is rose = subst (λ x. PollIsBack faults old (Err x) (Some new)) (sym is) (new, refl, rose)
  poll-stopped old new stop.NoMemory f is rose = subst (λ x. PollIsBack faults old (Err x) (Some new)) (sym is) tt

  -- a run that nobody stopped
  pub poll-made : (ran : Result ScriptRan Wanting) (made : Result ScriptRan RunFault) (old new : S) → MatchResult made (λ r. ran ≡ Ok r) (λ f. f ≡ fault.NoMemory) → faults new ≡ faults old → PollIsBack faults old made (Some new)
  poll-made ran (Ok r) old new is same = (new, refl, same)
  poll-made ran (Err f) old new is same = subst (λ x. PollIsBack faults old (Err x) (Some new)) (sym is) tt

module _ {D : Type 0} (kind : D → Kind) (stage : D → Life) (faults : D → ℕ) where
  -- the drivers of a run that was stopped have served their ports
  pub not-run : (ports : List PortDecl) (old new : List (Hosted D)) (why : Stop) (f : RunFault) → f ≡ stopped why → HaveAllServed kind stage faults ports old new
      → IsNotRun kind stage faults ports old new f
  not-run ports old new stop.PollFault f is served = subst (λ x. IsNotRun kind stage faults ports old new x) (sym is) served
  not-run ports old new stop.NoMemory f is served = subst (λ x. IsNotRun kind stage faults ports old new x) (sym is) tt

-- what is said of a run that was made is said of what is told of it
pub told-made : (P : ScriptRan → Type 0) (ran : Result ScriptRan Wanting) (made : Result ScriptRan RunFault) → MatchResult made (λ r. ran ≡ Ok r) (λ f. f ≡ fault.NoMemory) → IfOk ran P → IfOk made P
told-made P ran (Ok r) is holds = subst (λ x. IfOk x P) is holds
told-made P ran (Err f) is holds = tt

pub weaker : {A E : Type 0} (P Q : A → Type 0) (r : Result A E) → ((a : A) → P a → Q a) → IfOk r P → IfOk r Q
weaker P Q (Ok a) more holds = more a holds
weaker P Q (Err e) more holds = tt

module _ {D S : Type 0} {gh : Ghosts BodyView} (kind : D → Kind) (stage : D → Life) (faults : D → ℕ) (own : D → Own) (program : D → Option ToldProgram) where
  -- there is a place for each body
  pub places-many : (script : RunScript) (poll : S) (old mid : List (Hosted D)) (seated : SeatedScript BodyView S gh) (ended : List BodyView) (is : IsSeatedScript kind faults script poll old mid seated)
      → map name_of ended ≡ map name_of is.bodies → length seated.places.items ≡ length ended
  places-many script poll old mid seated ended is same =
      let found = is.found.len in
      let ports = ap length is.is.ports_are in
      let named = is.named.many in
      let ended_many = length-map ended name_of in
      let names_many = ap length same in
      omega (arith, found, ports, named, ended_many, names_many)

  -- the jobs have ended of a run with this setting
  pub has-ended : (polls : S → ℕ) (answered : S → List ℕ) (script : RunScript) (poll : S) (old mid : List (Hosted D)) (seated : SeatedScript BodyView S gh) (ended : List BodyView) (jobs : EndedJobs S)
      → (is : IsSeatedScript kind faults script poll old mid seated) → map name_of ended ≡ map name_of is.bodies → HaveEndedFor polls answered is.plans is.others poll jobs
      → HasEndedIn polls answered is.setting is.plans poll (map name_of ended) jobs
  has-ended polls answered script poll old mid seated ended jobs is same ends =
      record { is = is.is.is; named = subst (AreNamedIn is.setting) (sym same) is.named; others = is.others; dealt = is.dealt; ended = ends }

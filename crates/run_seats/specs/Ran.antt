-- A seated run once it is over.
use Rattle.std.specs.Prelude.{◌≡◌, ℕ, List, map}
use Rattle.port_sched.specs.declared.body.PortBody.{Ghosts}
use Rattle.threaded_jobs.specs.declared.jobs.RunJobs.{RunJobs}
use Rattle.threaded_jobs.specs.Jobs.{HaveRun}
use Rattle.threaded_jobs.specs.Parts.{AreEndsOf}
use Rattle.ticket_account.specs.Run.{IsOpenedFor}
use Rattle.run_seats.specs.declared.running.RunLeft.{RunLeft}
use Rattle.run_seats.specs.declared.seating.SeatedRun.{SeatedRun}
use Rattle.run_seats.specs.Seated.{all_seats}

module _ {B S : Type 0} {g : Ghosts B} where
  -- each job has run, and this is left of them
  pub record HasRunSeated (faults : S → ℕ) (answered : S → List ℕ) (run : SeatedRun B S g) (left : RunLeft B S) : Type 0 where
    pub jobs : RunJobs B S g
    pub went : HaveRun faults answered run.jobs jobs
    pub ends : AreEndsOf jobs left.jobs

  -- the bodies that the run was opened for are back, each under its name
  abbrev pub KeepBodies : {N : Type 0} → (B → N) → SeatedRun B S g → RunLeft B S → Type 0
  KeepBodies name run left = (bodies : List B) → IsOpenedFor bodies run.schedulers.items (all_seats run.jobs run.spare) → map name left.bodies.items ≡ map name bodies

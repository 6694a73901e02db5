-- The seats of one run before it and after it.
use Rattle.std.proofs.Common.{◌≡◌, ℕ, List, [], ◌∷◌, ◌++◌, Some, length, slice_get, refl}
use Rattle.port_sched.specs.declared.body.PortBody.{Ghosts}
use Rattle.port_sched.specs.declared.schedulers.Scheduler.{Scheduler}
use Rattle.port_sched.specs.declared.waking.JobSeats.{JobSeats}
use Rattle.port_sched.specs.Homes.{AreHomes}
use Rattle.run_jobs.proofs.Wakes.{nothing_woken}
use Rattle.threaded_jobs.specs.declared.jobs.RunJobs.{RunJobs}
use Rattle.threaded_jobs.specs.Parts.{seats_of}
use Rattle.threaded_jobs.proofs.Going.{went_nil, went_cons, went_append}
use Rattle.threaded_jobs.proofs.Joined.{seats_went}
use Rattle.ticket_account.specs.Run.{IsOpened}
use Rattle.run_seats.specs.declared.seating.SeatedRun.{SeatedRun}
use Rattle.run_seats.specs.Seated.{StaysOfOneRun, all_seats}

at_end : {A : Type 0} (xs : List A) (x : A) → slice_get (xs ++ x ∷ []) (length xs) ≡ Some x
at_end [] x = refl
at_end (y ∷ ys) x = at_end ys x

module _ {B S : Type 0} {g : Ghosts B} where
  -- the seats that are left over rest
  spare_rests : (schedulers : List (Scheduler B g)) (jobs : RunJobs B S g) (spare : JobSeats B g) → IsOpened schedulers (all_seats jobs spare) → AreHomes spare.homes.items
  spare_rests schedulers jobs spare opened =
      let own = opened.each_job (length (seats_of jobs)) spare (at_end (seats_of jobs) spare) in
      λ port s e. (let d = own.homes_are.1 port s e in (d.port_is, d.rests))

  pub stay_of_one_run : (faults : S → ℕ) (answered : S → List ℕ) (run : SeatedRun B S g) → StaysOfOneRun faults answered run
  stay_of_one_run faults answered run bodies schedulers jobs opened ran went = (
    record {
      before = run.schedulers.items;
      before_jobs = all_seats run.jobs run.spare;
      opened = opened.0;
      ran = ran;
      woke = went_append (seats_of run.jobs) (seats_of jobs) (run.spare ∷ []) (run.spare ∷ []) (seats_went faults answered run.jobs jobs went)
          (went_cons run.spare run.spare [] [] ([], nothing_woken run.spare (spare_rests run.schedulers.items run.jobs run.spare opened.0)) went_nil);
    },
    opened.1,
  )

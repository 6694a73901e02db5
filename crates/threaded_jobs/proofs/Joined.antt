-- The seats of jobs that have run.
use Rattle.std.proofs.Common.{ℕ, List, [], ◌∷◌, ◌++◌, map}
use Rattle.port_sched.specs.declared.body.PortBody.{Ghosts}
use Rattle.port_sched.specs.Jobs.{WentEach}
use Rattle.process_job.specs.declared.job.ProcessJob.{ProcessJob}
use Rattle.run_jobs.specs.declared.worker.WorkerJob.{WorkerJob}
use Rattle.ticket_account.specs.Run.{HasWoken}
use Rattle.threaded_jobs.specs.declared.jobs.RunJobs.{RunJobs}
use Rattle.threaded_jobs.specs.Jobs.{HaveRun}
use Rattle.threaded_jobs.specs.Parts.{seats_of}
use Rattle.threaded_jobs.proofs.Going.{went_nil, went_cons, went_append, went_map}

module _ {B S : Type 0} {g : Ghosts B} (faults : S → ℕ) (answered : S → List ℕ) where
  pub seats_went : (old new : RunJobs B S g) → HaveRun faults answered old new → WentEach HasWoken (seats_of old) (seats_of new)
  seats_went old new ran =
      let ports = λ (p : ProcessJob B g). p.seats.ports in
      let own = λ (w : WorkerJob B g). w.seats in
      went_append (map ports old.processes.items ++ map own old.workers.items) (map ports new.processes.items ++ map own new.workers.items) (old.poller.seats ∷ []) (new.poller.seats ∷ [])
      (went_append (map ports old.processes.items) (map ports new.processes.items) (map own old.workers.items) (map own new.workers.items)
      (went_map HasWoken ports (λ x y one. (one.kept, one.woke)) old.processes.items new.processes.items ran.processes)
      (went_map HasWoken own (λ x y one. (one.kept, one.woke)) old.workers.items new.workers.items ran.workers))
      (went_cons old.poller.seats new.poller.seats [] [] (ran.poller.kept, ran.poller.woke) went_nil)

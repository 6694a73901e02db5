-- The parts of the jobs of a run: their seats, and what is left of each.
use Rattle.std.specs.Prelude.{◌≡◌, ◌+◌, ◌≤◌, ℕ, Option, Some, IsSome, List, [], ◌∷◌, ◌++◌, map, option_map, All, vec_capacity}
use Rattle.port_sched.specs.declared.body.PortBody.{Ghosts}
use Rattle.port_sched.specs.declared.waking.JobSeats.{JobSeats}
use Rattle.run_jobs.specs.declared.finish.FinishJob.{FinishJob}
use Rattle.run_jobs.specs.declared.poller.PollerJob.{PollerJob}
use Rattle.run_jobs.specs.declared.worker.WorkerJob.{WorkerJob}
use Rattle.threaded_jobs.specs.declared.jobs.RunJobs.{RunJobs}
use Rattle.threaded_jobs.specs.declared.parting.FinishLeft.{FinishLeft}
use Rattle.threaded_jobs.specs.declared.parting.PollerLeft.{PollerLeft}
use Rattle.threaded_jobs.specs.declared.parting.RunEnds.{RunEnds}
use Rattle.threaded_jobs.specs.declared.parting.SeatRoom.{SeatRoom}
use Rattle.threaded_jobs.specs.declared.parting.WorkerLeft.{WorkerLeft}

-- what is left of the job that told of the end, once it has run
abbrev pub finish_left : FinishJob → Option FinishLeft
finish_left f = option_map (λ end. record { poller = f.poller; workers = f.workers; end = end }) f.end

module _ {B : Type 0} {g : Ghosts B} where
  -- what is left of a worker
  abbrev pub worker_left : WorkerJob B g → Option WorkerLeft
  worker_left w = option_map (λ end. record { jobs = w.jobs; lanes = w.lanes; end = end }) w.end

  -- the lists are empty, and have room for so many processes and workers
  pub record HasRoom (processes workers : ℕ) (room : SeatRoom B g) : Type 0 where
    pub no_seats : room.seats.items ≡ []
    pub no_processes : room.processes.items ≡ []
    pub no_workers : room.workers.items ≡ []
    pub for_seats : processes + workers + 1 ≤ vec_capacity room.seats
    pub for_processes : processes ≤ vec_capacity room.processes
    pub for_workers : workers ≤ vec_capacity room.workers

module _ {B S : Type 0} {g : Ghosts B} where
  -- what is left of the poller
  abbrev pub poller_left : PollerJob B S g → Option (PollerLeft S)
  poller_left p = option_map (λ end. record { watch = p.watch; lanes = p.lanes; end = end }) p.end

  -- the seats of the processes, of the workers and of the poller
  abbrev pub seats_of : RunJobs B S g → List (JobSeats B g)
  seats_of r = map (λ p. p.seats.ports) r.processes.items ++ map (λ w. w.seats) r.workers.items ++ r.poller.seats ∷ []

  -- each has ended
  pub record HaveEnded (r : RunJobs B S g) : Type 0 where
    pub processes : All (λ p. IsSome p.end) r.processes.items
    pub workers : All (λ w. IsSome w.end) r.workers.items
    pub poller : IsSome r.poller.end
    pub finish : IsSome r.finish.end

  -- this is left of the jobs
  pub record AreEndsOf (r : RunJobs B S g) (ends : RunEnds S) : Type 0 where
    pub processes : map Some ends.processes.items ≡ map (λ p. p.end) r.processes.items
    pub workers : map Some ends.workers.items ≡ map worker_left r.workers.items
    pub poller : Some ends.poller ≡ poller_left r.poller
    pub finish : Some ends.finish ≡ finish_left r.finish

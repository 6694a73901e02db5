-- A run that can begin, and the seats of one that is over.
use Rattle.std.specs.Prelude.{◌≡◌, ◌+◌, ◌≤◌, ℕ, List, [], ◌∷◌, ◌++◌, None, All, length, map, vec_capacity}
use Rattle.threaded_jobs.specs.process_job.port_model.declared.signal.Sender.TheVariants as sender
use Rattle.port_sched.specs.declared.body.PortBody.{Ghosts}
use Rattle.port_sched.specs.declared.schedulers.Scheduler.{Scheduler}
use Rattle.port_sched.specs.declared.waking.JobSeats.{JobSeats}
use Rattle.port_sched.specs.Jobs.{WentEach}
use Rattle.port_sched.specs.Schedulers.{CanBegin, Ended}
use Rattle.run_jobs.specs.declared.finish.FinishJob.{FinishJob}
use Rattle.run_jobs.specs.declared.poller.PollerJob.{PollerJob}
use Rattle.run_jobs.specs.Telling.{AreEndsOf}
use Rattle.run_lanes.specs.declared.parts.FinishEnds.{FinishEnds}
use Rattle.run_lanes.specs.declared.parts.PollerLanes.{PollerLanes}
use Rattle.threaded_jobs.specs.declared.jobs.JobRoom.{JobRoom}
use Rattle.threaded_jobs.specs.declared.jobs.RunJobs.{RunJobs}
use Rattle.threaded_jobs.specs.declared.parting.SeatRoom.{SeatRoom}
use Rattle.threaded_jobs.specs.Jobs.{CanAllGo, HaveRun}
use Rattle.threaded_jobs.specs.Parts.{HasRoom, seats_of}
use Rattle.ticket_account.specs.Run.{HasRun, IsOpenedFor}
use Rattle.run_seats.specs.declared.plans.ProcessPlan.{ProcessPlan}
use Rattle.run_seats.specs.declared.rooms.EndRoom.{EndRoom}
use Rattle.run_seats.specs.declared.seating.OtherLanes.{OtherLanes}
use Rattle.run_seats.specs.declared.seating.SeatedRun.{SeatedRun}
use Rattle.run_seats.specs.Dealt.{AreDealtProcesses, AreDealtWorkers, AreReadyWorkers}
use Rattle.run_seats.specs.Homing.{IsHomeRoom}

-- the poller can begin: it has an end of each of so many ports
pub record IsReadyPoller (ports : ℕ) (lanes : PollerLanes) : Type 0 where
  pub many : length lanes.lanes.items ≡ ports
  pub ends : AreEndsOf sender.Poller lanes.lanes.items

-- so can each worker
pub record AreReadyLanes (ports : ℕ) (lanes : OtherLanes) : Type 0 where
  pub workers : AreReadyWorkers ports lanes.workers.items
  pub poller : IsReadyPoller ports lanes.poller

-- the job is to tell these of the end, and hasn't run
pub record IsDealtFinish (ends : FinishEnds) (job : FinishJob) : Type 0 where
  pub poller : job.poller ≡ ends.poller
  pub workers_are : job.workers.items ≡ ends.workers.items
  pub end : job.end ≡ None

module _ {B : Type 0} {g : Ghosts B} where
  -- the lists are empty, and have room for so many processes and workers
  pub record IsJobRoom (processes workers : ℕ) (room : JobRoom B g) : Type 0 where
    pub no_processes : room.processes.items ≡ []
    pub no_workers : room.workers.items ≡ []
    pub for_processes : processes ≤ vec_capacity room.processes
    pub for_workers : workers ≤ vec_capacity room.workers

  -- so have these, with room for the seats that are left over
  abbrev pub HasSeatRoom : ℕ → ℕ → SeatRoom B g → Type 0
  HasSeatRoom processes workers room = HasRoom processes workers room × (processes + workers + 2 ≤ vec_capacity room.seats)

  -- the seats of one run, after it, that was opened for these bodies
  abbrev pub HasRunFor : List B → List (Scheduler B g) → List (JobSeats B g) → Type 0
  HasRunFor bodies schedulers jobs = (run : HasRun schedulers jobs) × (map (λ l. l.body) run.opened.bodies ≡ bodies)

module _ {B S : Type 0} {g : Ghosts B} where
  -- the job is to watch these with this poll set, and hasn't run
  pub record IsDealtPoller (lanes : PollerLanes) (poll : S) (job : PollerJob B S g) : Type 0 where
    pub watch : job.watch ≡ record { poll = poll; table = []; asks = lanes.asks }
    pub lanes_are : job.lanes.items ≡ lanes.lanes.items
    pub end : job.end ≡ None

  -- each job is dealt what it is to do, in its place, and none has run
  pub record AreDealtJobs (plans : List ProcessPlan) (lanes : OtherLanes) (poll : S) (jobs : RunJobs B S g) : Type 0 where
    pub processes : AreDealtProcesses plans jobs.processes.items
    pub workers : AreDealtWorkers lanes.workers.items jobs.workers.items
    pub poller : IsDealtPoller lanes.poller poll jobs.poller
    pub finish : IsDealtFinish lanes.finish jobs.finish

  -- the seats of all jobs, and those of the job that wakes nobody
  abbrev pub all_seats : RunJobs B S g → JobSeats B g → List (JobSeats B g)
  all_seats jobs spare = seats_of jobs ++ spare ∷ []

  -- the lists are empty, and have room for the end of a run of so many ports, processes and workers
  pub record IsEndRoom (ports processes workers : ℕ) (room : EndRoom B S g) : Type 0 where
    pub no_jobs : room.list.items ≡ []
    pub for_jobs : processes + workers + 2 ≤ vec_capacity room.list
    pub apart : IsJobRoom processes workers room.jobs
    pub seats : HasSeatRoom processes workers room.seats
    pub homes : IsHomeRoom ports room.homes

  -- the run can begin, with these bodies at home, and each job is dealt what it is to do
  pub record IsSeated (bodies : List B) (plans : List ProcessPlan) (lanes : OtherLanes) (poll : S) (schedulers : ℕ) (run : SeatedRun B S g) : Type 0 where
    pub opened : IsOpenedFor bodies run.schedulers.items (all_seats run.jobs run.spare)
    pub many : length run.schedulers.items ≡ schedulers
    pub begin : All CanBegin run.schedulers.items
    pub can : CanAllGo run.jobs
    pub dealt : AreDealtJobs plans lanes poll run.jobs
    pub room : IsEndRoom (length bodies) (length plans) (length lanes.workers.items) run.room

  -- where the schedulers and the jobs of a run have run, their seats are those of one run
  abbrev pub StaysOfOneRun : (S → ℕ) → (S → List ℕ) → SeatedRun B S g → Type 0
  StaysOfOneRun faults answered run = (bodies : List B) (schedulers : List (Scheduler B g)) (jobs : RunJobs B S g) → IsOpenedFor bodies run.schedulers.items (all_seats run.jobs run.spare)
      → WentEach Ended run.schedulers.items schedulers → HaveRun faults answered run.jobs jobs → HasRunFor bodies schedulers (all_seats jobs run.spare)

-- The seats of one run, from their making until they are joined.
use Rattle.std.specs.Prelude.{◌≡◌, ℕ, ◌+◌, ◌<◌, ◌≤◌, false, List, [], length, map, slice_get, sum_by, All, Some, None}
use Rattle.std.specs.declared.snapshot.Snapshot.{Snapshot}
use Rattle.atomic_blocks.specs.Laid.{WebId}
use Rattle.atomic_blocks.specs.Lent.{RowsId}
use Rattle.atomic_table.specs.Seated.{TableId}
use Rattle.port_words.specs.declared.home.homes.Ticket.{Ticket}
use Rattle.port_words.specs.home.Home.{HasBegunNone}
use Rattle.port_words.specs.home.Seats.{HomeKnown}
use Rattle.run_queue.specs.Account.{hand, all_parts}
use Rattle.run_queue.specs.Seats.{entry_known, fresh_seat, entry_parts}
use Rattle.port_sched.specs.declared.body.PortBody.{Ghosts}
use Rattle.port_sched.specs.declared.lodger.Lodger.{Lodger}
use Rattle.port_sched.specs.declared.scheduling.SchedEnd.TheVariants.{Done}
use Rattle.port_sched.specs.declared.schedulers.Scheduler.{Scheduler}
use Rattle.port_sched.specs.declared.waking.JobSeats.{JobSeats}
use Rattle.port_sched.specs.Closing.{AreLastBodies}
use Rattle.port_sched.specs.Homes.{used_of, made_of, weighed}
use Rattle.port_sched.specs.Jobs.{WentEach}
use Rattle.port_sched.specs.Schedulers.{Ended}
use Rattle.port_sched.specs.Waking.{Woke}
use Rattle.ticket_account.specs.Account.{HasNoTickets}

module _ {B : Type 0} where
  -- the home was made with the body of its port
  pub record IsHomeOf (bodies : List B) (port : ℕ) (s : HomeKnown B) : Type 0 where
    pub first : Snapshot B
    pub fixed : s.known.body ≡ Some first
    pub made_with : slice_get bodies port ≡ Some first.value

  abbrev pub AreHomesOf : List B → List (HomeKnown B) → Type 0
  AreHomesOf bodies homes = (length homes ≡ length bodies) × ((port : ℕ) (s : HomeKnown B) → slice_get homes port ≡ Some s → IsHomeOf bodies port s)

  -- a seat of the home of this port that has done nothing yet. The home has so many seats
  pub record IsDealt (homes : List TableId) (bodies : List B) (seats port : ℕ) (s : HomeKnown B) : Type 0 where
    pub home : slice_get homes port ≡ Some s.home
    pub port_is : s.port ≡ port
    pub home_of : IsHomeOf bodies port s
    pub rests : s.known.running ≡ None
    pub share : s.known.shares ≡ 1
    pub seats_are : s.known.seats ≡ seats
    pub unused : HasNoTickets s
    pub begun_none : HasBegunNone s.known

  -- one of each home, in the order of ports
  abbrev pub AreDealt : List TableId → List B → ℕ → List (HomeKnown B) → Type 0
  AreDealt homes bodies seats mine = (length mine ≡ length homes) × ((port : ℕ) (s : HomeKnown B) → slice_get mine port ≡ Some s → IsDealt homes bodies seats port s)

  -- the bodies that come out of homes have the names of those that the homes were made with, in the order of ports
  abbrev pub KeepNames : {N : Type 0} → (B → N) → Type 0
  KeepNames name = (bodies last : List B) (homes : List (HomeKnown B)) → AreHomesOf bodies homes → AreLastBodies name homes last → map name last ≡ map name bodies

  -- each ticket that the homes made was claimed or found stale, or is left, or was kept, each once
  abbrev pub IsEachOnce : List Ticket → List Ticket → List (HomeKnown B) → Type 0
  IsEachOnce left kept homes = (weight : ℕ → ℕ → ℕ) → made_of weight homes ≡ used_of weight homes + sum_by (weighed weight) left + sum_by (weighed weight) kept

module _ {B : Type 0} {g : Ghosts B} where
  pub record IsOpenedScheduler (deques : List RowsId) (injector : WebId) (homes : List TableId) (bodies : List (Lodger B g)) (word : TableId) (schedulers jobs number : ℕ) (s : Scheduler B g) : Type 0 where
    pub run : s.seats.run ≡ fresh_seat deques injector number (entry_parts schedulers jobs number)
    pub homes_are : AreDealt homes bodies (schedulers + jobs) s.seats.homes.items
    pub over : s.seats.over.word ≡ word

  pub record IsOpenedJob (injector : WebId) (homes : List TableId) (bodies : List (Lodger B g)) (schedulers jobs : ℕ) (j : JobSeats B g) : Type 0 where
    pub entry_is : j.entry ≡ entry_known injector (hand 1 [] [])
    pub homes_are : AreDealt homes bodies (schedulers + jobs) j.homes.items

  -- the seats of all schedulers and of all other jobs of one run, before it: they have every share of each home and of the queues
  pub record IsOpened (schedulers : List (Scheduler B g)) (jobs : List (JobSeats B g)) : Type 0 where
    pub deques : List RowsId
    pub injector : WebId
    pub homes : List TableId
    pub bodies : List (Lodger B g)
    pub word : TableId
    pub some : 0 < length schedulers
    pub each_home : length homes ≡ length bodies
    pub deques_count : length deques ≡ length schedulers
    pub few : length jobs + length schedulers ≤ all_parts
    pub each : (n : ℕ) (s : Scheduler B g) → slice_get schedulers n ≡ Some s → IsOpenedScheduler deques injector homes bodies word (length schedulers) (length jobs) n s
    pub each_job : (n : ℕ) (j : JobSeats B g) → slice_get jobs n ≡ Some j → IsOpenedJob injector homes bodies (length schedulers) (length jobs) j

  -- whose homes were made with these bodies, one port each
  abbrev pub IsOpenedFor : List B → List (Scheduler B g) → List (JobSeats B g) → Type 0
  IsOpenedFor bodies schedulers jobs = (opened : IsOpened schedulers jobs) × (map (λ l. l.body) opened.bodies ≡ bodies)

  abbrev pub HasWoken : JobSeats B g → JobSeats B g → Type 0
  HasWoken old new = (kept : List Ticket) × Woke kept old new

  -- the seats of all schedulers and jobs of one run, after it
  pub record HasRun (schedulers : List (Scheduler B g)) (jobs : List (JobSeats B g)) : Type 0 where
    pub before : List (Scheduler B g)
    pub before_jobs : List (JobSeats B g)
    pub opened : IsOpened before before_jobs
    pub ran : WentEach Ended before schedulers
    pub woke : WentEach HasWoken before_jobs jobs

  abbrev pub IsDone : Scheduler B g → Type 0
  IsDone s = s.end ≡ Some Done

  abbrev pub HasPutAll : JobSeats B g → Type 0
  HasPutAll j = j.refused ≡ false

  -- Of all tickets that were made these are left in the queues, and those were kept for want of memory, each once. None was kept where every scheduler saw the end and
  -- every job put all its tickets
  pub record IsSettled (schedulers : List (Scheduler B g)) (jobs : List (JobSeats B g)) (homes : List (HomeKnown (Lodger B g))) : Type 0 where
    pub left : List Ticket
    pub kept : List Ticket
    pub none_kept : All IsDone schedulers → All HasPutAll jobs → kept ≡ []
    pub each_once : IsEachOnce left kept homes

  -- the homes of a run were made with the bodies that it was opened for
  abbrev pub HomesOfRun : List (Scheduler B g) → List (JobSeats B g) → List (HomeKnown (Lodger B g)) → Type 0
  HomesOfRun schedulers jobs homes = (run : HasRun schedulers jobs) → AreHomesOf run.opened.bodies homes

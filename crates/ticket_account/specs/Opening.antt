-- The seats of a run in the midst of being made.
use Rattle.std.specs.Prelude.{◌≡◌, ℕ, true, false, List, [], ◌∷◌, ◌++◌, length, map, slice_get, replicate, All, Some}
use Rattle.atomic_table.specs.Seated.{TableId}
use Rattle.port_words.specs.home.Seats.{HomeKnown}
use Rattle.port_words.specs.over.Over.{OverKnown, HasToFinish, HasNotStopped}
use Rattle.run_queue.specs.Seats.{RunKnown, EntryKnown}
use Rattle.port_sched.specs.declared.body.PortBody.{Ghosts}
use Rattle.port_sched.specs.declared.lodger.Lodger.{Lodger}
use Rattle.port_sched.specs.declared.schedulers.Scheduler.{Scheduler}
use Rattle.port_sched.specs.declared.waking.JobSeats.{JobSeats}
use Rattle.port_sched.specs.Homes.{AreHomes}
use Rattle.port_sched.specs.Lodging.{is_counted, has_finished}
use Rattle.ticket_account.specs.Run.{AreDealt}

-- a new seat of this word OVER, and a counted one
pub record IsOther (word : TableId) (s : OverKnown) : Type 0 where
  pub word_is : s.word ≡ word
  pub runs : HasNotStopped s.known.places

pub record IsCounted (word : TableId) (s : OverKnown) : Type 0 where
  pub word_is : s.word ≡ word
  pub counted : is_counted s.known ≡ true
  pub waits : has_finished s.known ≡ false
  pub has_to : HasToFinish s.known.size.counted s.known.places
  pub runs : HasNotStopped s.known.places

-- so many of each, of one word
pub record ArePlaces (counted others : ℕ) (firsts rest : List OverKnown) : Type 0 where
  pub word : TableId
  pub many : length firsts ≡ counted
  pub others_many : length rest ≡ others
  pub firsts_are : All (IsCounted word) firsts
  pub rest_are : All (IsOther word) rest

module _ {B : Type 0} where
  -- where the seats are all alike, each list has one more of them
  abbrev pub GivesEach : List (HomeKnown B) → List (List (HomeKnown B)) → List (List (HomeKnown B)) → Type 0
  GivesEach seats old new = (s : HomeKnown B) → seats ≡ replicate (length old) s → new ≡ map (λ row. row ++ s ∷ []) old

  -- each has the same seats of the homes of these bodies
  pub record AreAlike (seats : ℕ) (bodies : List B) (rows : List (List (HomeKnown B))) : Type 0 where
    pub homes : List TableId
    pub many : length homes ≡ length bodies
    pub row : List (HomeKnown B)
    pub dealt : AreDealt homes bodies seats row
    pub same : All (λ r. r ≡ row) rows

module _ {B : Type 0} {g : Ghosts B} where
  -- homes in which these bodies stand
  abbrev pub HomesOfBodies : ℕ → List B → List (List (HomeKnown (Lodger B g))) → Type 0
  HomesOfBodies seats bodies rows = (lodgers : List (Lodger B g)) × (map (λ l. l.body) lodgers ≡ bodies) × AreAlike seats lodgers rows

  -- the seats of queues got seats of homes and of OVER, each in its place
  pub record IsSeated (run : RunKnown) (row : List (HomeKnown (Lodger B g))) (word : TableId) (s : Scheduler B g) : Type 0 where
    pub run_is : s.seats.run ≡ run
    pub homes_are : s.seats.homes.items ≡ row
    pub over : IsOther word s.seats.over

  abbrev pub AreSeated : List RunKnown → List (HomeKnown (Lodger B g)) → TableId → List (Scheduler B g) → Type 0
  AreSeated runs row word all = (length all ≡ length runs) × ((n : ℕ) (run : RunKnown) (s : Scheduler B g) → slice_get runs n ≡ Some run → slice_get all n ≡ Some s → IsSeated run row word s)

  pub record IsJobSeat (entry : EntryKnown) (row : List (HomeKnown (Lodger B g))) (j : JobSeats B g) : Type 0 where
    pub entry_is : j.entry ≡ entry
    pub homes_are : j.homes.items ≡ row

  abbrev pub AreJobSeats : List EntryKnown → List (HomeKnown (Lodger B g)) → List (JobSeats B g) → Type 0
  AreJobSeats entries row all = (length all ≡ length entries) × ((n : ℕ) (entry : EntryKnown) (j : JobSeats B g) → slice_get entries n ≡ Some entry → slice_get all n ≡ Some j → IsJobSeat entry row j)

  -- a job can wake each of so many ports
  pub record IsReadyJob (ports : ℕ) (j : JobSeats B g) : Type 0 where
    pub many : length j.homes.items ≡ ports
    pub homes_are : AreHomes j.homes.items

-- What a job beside the schedulers does with its seats.
use Rattle.std.specs.Prelude.{◌≡◌, ℕ, ◌+◌, Bool, true, false, List, [], Result, Ok, Err, sum_by}
use Rattle.port_words.specs.declared.home.homes.Ticket.{Ticket}
use Rattle.port_words.specs.home.Seats.{HomeKnown}
use Rattle.run_queue.specs.Account.{put_weight}
use Rattle.run_queue.specs.Seats.{EntryKnown}
use Rattle.port_sched.specs.declared.body.PortBody.{Ghosts}
use Rattle.port_sched.specs.declared.waking.JobSeats.{JobSeats}
use Rattle.port_sched.specs.Homes.{AreHomes, HomesStep, used_of, made_of, weighed}

-- the end of the injector is of the injector that it was of, and it took nothing
pub record IsSameEntry (old new : EntryKnown) : Type 0 where
  pub injector : new.injector ≡ old.injector
  pub parts : new.hand.parts ≡ old.hand.parts
  pub taken : new.hand.taken ≡ old.hand.taken

-- a call that found no memory notes it
abbrev pub Refuses : {A E : Type 0} → Result A E → Bool → Bool → Type 0
Refuses (Ok answer) old new = new ≡ old
Refuses (Err error) old new = new ≡ true

module _ {B : Type 0} where
  -- Between the two, each ticket that the homes made was put into the injector, each once, but those that were kept. None was claimed, and none found stale
  pub record Wakes (kept : List Ticket) (homes : List (HomeKnown B)) (entry : EntryKnown) (homes' : List (HomeKnown B)) (entry' : EntryKnown) : Type 0 where
    pub steps : HomesStep homes homes'
    pub same : IsSameEntry entry entry'
    pub used : (weight : ℕ → ℕ → ℕ) → used_of weight homes' ≡ used_of weight homes
    pub made : (weight : ℕ → ℕ → ℕ) → made_of weight homes' + put_weight (weighed weight) entry.hand ≡ made_of weight homes + put_weight (weighed weight) entry'.hand + sum_by (weighed weight) kept

module _ {B : Type 0} {g : Ghosts B} where
  -- a job has gone on from what it had to what it has now, and its seats of the homes rest
  pub record Woke (kept : List Ticket) (old new : JobSeats B g) : Type 0 where
    pub homes : AreHomes new.homes.items
    pub all_put : new.refused ≡ false → kept ≡ []
    pub tickets : Wakes kept old.homes.items old.entry new.homes.items new.entry

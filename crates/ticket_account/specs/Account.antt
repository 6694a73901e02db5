-- The account of a run's tickets.
use Rattle.std.specs.Prelude.{◌≡◌, ◌⊎◌, ℕ, ◌+◌, List, [], ◌++◌, length, slice_get, sum_by, All, Some, None}
use Rattle.port_words.specs.declared.home.homes.Ticket.{Ticket}
use Rattle.port_words.specs.home.Seats.{HomeKnown}
use Rattle.run_queue.specs.Account.{put_weight, taken_weight}
use Rattle.run_queue.specs.Seats.{DequeKnown, EntryKnown, RunKnown, AreSeats, put_by, taken_by, joined_seat, joined_entry, IsLeftOf}
use Rattle.port_sched.specs.Homes.{used_of, made_of, weighed}
use Rattle.port_sched.specs.Closing.{joined_homes}
use Rattle.port_sched.specs.Tickets.{IsQueueSeat, Serves}

-- the seats of the same ports, in their order
abbrev pub AreOfSamePorts : {B : Type 0} → List (HomeKnown B) → List (HomeKnown B) → Type 0
AreOfSamePorts {B} vs ws = (length ws ≡ length vs) × ((n : ℕ) (v w : HomeKnown B) → slice_get vs n ≡ Some v → slice_get ws n ≡ Some w → w.port ≡ v.port)

-- no deque has its owner in both
abbrev pub OwnApart : DequeKnown → DequeKnown → Type 0
OwnApart k l = (k.own ≡ None) ⊎ (l.own ≡ None)

abbrev pub OwnersApart : RunKnown → RunKnown → Type 0
OwnersApart v w = (length w.deques ≡ length v.deques) × ((n : ℕ) (k l : DequeKnown) → slice_get v.deques n ≡ Some k → slice_get w.deques n ≡ Some l → OwnApart k l)

-- what the seats of two jobs made, and what they claimed or found stale, adds up where they are joined
abbrev pub HomesAddUp : Type 0 → Type 0
HomesAddUp B = (vs ws : List (HomeKnown B)) → AreOfSamePorts vs ws → (weight : ℕ → ℕ → ℕ)
    → (made_of weight (joined_homes vs ws) ≡ made_of weight vs + made_of weight ws) × (used_of weight (joined_homes vs ws) ≡ used_of weight vs + used_of weight ws)

-- and so does what two schedulers put into the queues and took of them
abbrev pub SeatsAddUp : Type 0
SeatsAddUp = (v w : RunKnown) → OwnersApart v w → (weight : Ticket → ℕ)
    → (put_by weight (joined_seat v w) ≡ put_by weight v + put_by weight w) × (taken_by weight (joined_seat v w) ≡ taken_by weight v + taken_by weight w)

-- and what a scheduler and another job did, which has an end of the injector
abbrev pub EndsAddUp : Type 0
EndsAddUp = (s : RunKnown) (e : EntryKnown) (weight : Ticket → ℕ)
    → (put_by weight (record s { entry = joined_entry s.entry e }) ≡ put_by weight s + put_weight weight e.hand)
    × (taken_by weight (record s { entry = joined_entry s.entry e }) ≡ taken_by weight s + taken_weight weight e.hand)

-- Each ticket that the homes made was put into the queues, but those that were kept. Each ticket that was taken of the queues was claimed or found stale, but those of no port
pub record IsAccount {B : Type 0} (kept strange : List Ticket) (homes : List (HomeKnown B)) (run : RunKnown) : Type 0 where
  pub made : (weight : ℕ → ℕ → ℕ) → made_of weight homes ≡ put_by (weighed weight) run + sum_by (weighed weight) kept
  pub used : (weight : ℕ → ℕ → ℕ) → used_of weight homes + sum_by (weighed weight) strange ≡ taken_by (weighed weight) run

-- nothing was put and nothing was taken
abbrev pub IsUnused : RunKnown → Type 0
IsUnused s = (weight : Ticket → ℕ) → (put_by weight s ≡ 0) × (taken_by weight s ≡ 0)

-- each seat of new queues is one of their seats, and unused
abbrev pub NewSeatIsUnused : Type 0
NewSeatIsUnused = (schedulers entries : ℕ) (seats : List RunKnown) (ends : List EntryKnown) → AreSeats schedulers entries seats ends
    → (n : ℕ) (s : RunKnown) → slice_get seats n ≡ Some s → IsQueueSeat s × IsUnused s

abbrev pub HasNoTickets : {B : Type 0} → HomeKnown B → Type 0
HasNoTickets s = (s.known.made ≡ []) × (s.known.claimed ≡ []) × (s.known.stale ≡ [])

-- seats that have done nothing have an account
abbrev pub NewAccount : Type 0 → Type 0
NewAccount B = (homes : List (HomeKnown B)) (run : RunKnown) → All HasNoTickets homes → IsUnused run → IsAccount [] [] homes run

-- a scheduler that goes on from an account has one when it ends
abbrev pub ServedAccount : Type 0 → Type 0
ServedAccount B = (kept strange more : List Ticket) (homes homes' : List (HomeKnown B)) (run run' : RunKnown) → IsQueueSeat run → IsAccount kept strange homes run
    → (served : Serves [] more homes run homes' run') → IsAccount (kept ++ more) (strange ++ served.strange) homes' run'

-- two schedulers' accounts are one where their seats are joined
abbrev pub JoinedAccount : Type 0 → Type 0
JoinedAccount B = (kept strange more stranger : List Ticket) (homes homes' : List (HomeKnown B)) (run run' : RunKnown) → AreOfSamePorts homes homes' → OwnersApart run run'
    → IsAccount kept strange homes run → IsAccount more stranger homes' run' → IsAccount (kept ++ more) (strange ++ stranger) (joined_homes homes homes') (joined_seat run run')

-- Each ticket that another job's homes made was put into the injector, but those that were kept, and it used none
pub record IsJobAccount {B : Type 0} (kept : List Ticket) (homes : List (HomeKnown B)) (entry : EntryKnown) : Type 0 where
  pub made : (weight : ℕ → ℕ → ℕ) → made_of weight homes ≡ put_weight (weighed weight) entry.hand + sum_by (weighed weight) kept
  pub used : (weight : ℕ → ℕ → ℕ) → used_of weight homes ≡ 0
  pub taken : entry.hand.taken ≡ []

-- and so are those of schedulers and of another job
abbrev pub JoinedJobAccount : Type 0 → Type 0
JoinedJobAccount B = (kept strange more : List Ticket) (homes homes' : List (HomeKnown B)) (run : RunKnown) (entry : EntryKnown) → AreOfSamePorts homes homes'
    → IsAccount kept strange homes run → IsJobAccount more homes' entry
    → IsAccount (kept ++ more) strange (joined_homes homes homes') (record run { entry = joined_entry run.entry entry })

-- of the tickets made, those that weren't claimed or found stale are left in a queue, kept, or of no port, each once
abbrev pub EachTicketOnce : Type 0 → Type 0
EachTicketOnce B = (kept strange left : List Ticket) (homes : List (HomeKnown B)) (run : RunKnown) → IsAccount kept strange homes run → IsLeftOf run left
    → (weight : ℕ → ℕ → ℕ) → made_of weight homes ≡ used_of weight homes + sum_by (weighed weight) left + sum_by (weighed weight) kept + sum_by (weighed weight) strange

-- The account of a scheduler's tickets: what became of those that the queues gave, and of those that the homes made.
use Rattle.std.specs.Prelude.{◌≡◌, ℕ, ◌+◌, ◌≤◌, Bool, List, map, length, sum_by, All, is_some}
use Rattle.port_words.specs.declared.home.homes.Ticket.{Ticket}
use Rattle.port_words.specs.home.Seats.{HomeKnown}
use Rattle.run_queue.specs.Account.{parts_of}
use Rattle.run_queue.specs.Seats.{DequeKnown, RunKnown, OwnsItsDeque, IsDequeEnd, hands_of, put_by, taken_by}
use Rattle.port_sched.specs.Homes.{HomesStep, used_of, made_of, weighed}

-- what holds of every seat of queues: it owns the deque of its number, and has a pass of each deque
abbrev pub IsQueueSeat : RunKnown → Type 0
IsQueueSeat s = OwnsItsDeque s.number s.deques × All (IsDequeEnd (length s.deques) s.seats) s.deques

-- whether the owner of a deque is among these ends, and how many parts of the right to know all of it they have
abbrev pub has_owner : DequeKnown → Bool
has_owner k = is_some k.own

abbrev pub parts_in : DequeKnown → ℕ
parts_in k = sum_by parts_of (hands_of k)

-- the seat is of the queues that it was of, is the owner of the deques that it was the owner of, and has the parts of each that it had
pub record IsSameSeat (old new : RunKnown) : Type 0 where
  pub number : new.number ≡ old.number
  pub seats : new.seats ≡ old.seats
  pub deques : map (λ k. k.deque) new.deques ≡ map (λ k. k.deque) old.deques
  pub owners : map has_owner new.deques ≡ map has_owner old.deques
  pub parts : map parts_in new.deques ≡ map parts_in old.deques
  pub injector : new.entry.injector ≡ old.entry.injector
  pub entry_parts : new.entry.hand.parts ≡ old.entry.hand.parts
  pub is_seat : IsQueueSeat old → IsQueueSeat new

-- a seat of queues took these tickets, and put those
pub record QueueStep (taken put : List Ticket) (old new : RunKnown) : Type 0 where
  pub same : IsSameSeat old new
  pub taken_tickets : IsQueueSeat old → (weight : Ticket → ℕ) → taken_by weight new ≡ taken_by weight old + sum_by weight taken
  pub put_tickets : IsQueueSeat old → (weight : Ticket → ℕ) → put_by weight new ≡ put_by weight old + sum_by weight put

module _ {B : Type 0} where
  -- Between the two, each ticket that was held or that the queues gave was claimed or found stale on the home of its port, each once, but those of no port. And each
  -- ticket that a home made was pushed, each once, but those that were kept
  pub record Serves (held kept : List Ticket) (homes : List (HomeKnown B)) (run : RunKnown) (homes' : List (HomeKnown B)) (run' : RunKnown) : Type 0 where
    pub steps : HomesStep homes homes'
    pub same : IsSameSeat run run'
    pub strange : List Ticket
    pub no_port : All (λ t. length homes ≤ t.port) strange
    pub used : IsQueueSeat run → (weight : ℕ → ℕ → ℕ)
        → used_of weight homes' + sum_by (weighed weight) strange + taken_by (weighed weight) run ≡ used_of weight homes + taken_by (weighed weight) run' + sum_by (weighed weight) held
    pub made : IsQueueSeat run → (weight : ℕ → ℕ → ℕ)
        → made_of weight homes' + put_by (weighed weight) run ≡ made_of weight homes + put_by (weighed weight) run' + sum_by (weighed weight) kept

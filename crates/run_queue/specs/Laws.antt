-- What holds of every queue of tickets, whatever its threads do and in whatever order.
use Rattle.std.specs.Prelude.{◌≡◌, ℕ, ◌+◌, ◌<◌, List, [], ◌∷◌, sum_by}
use Rattle.crossbeam_deque.specs.Tasks.{Pushes, Takes, Forks, Merges, Learns}
use Rattle.port_words.specs.declared.home.homes.Ticket.{Ticket}
use Rattle.run_queue.specs.declared.account.QueueHand.{QueueHand}
use Rattle.run_queue.specs.Account.{IsQueue, IsLeft, first_hand, spent_hand, other_parts, one_part, after_put, after_take, together, put_weight, taken_weight, all_parts}

-- what was put is what was taken and what the queue holds, each ticket once
abbrev pub EachOnce : Type 0
EachOnce = (tickets : List Ticket) (views : List QueueHand) → IsQueue tickets views
    → (weight : Ticket → ℕ) → sum_by (put_weight weight) views ≡ sum_by (taken_weight weight) views + sum_by weight tickets

-- a new queue meets the rule
abbrev pub NewQueueKept : Type 0
NewQueueKept = IsQueue [] (first_hand ∷ [])

-- a thread puts a ticket, and takes the first
abbrev pub PutsKept : Type 0
PutsKept = (port : ℕ) (v : QueueHand) (ticket : Ticket) → 0 < v.parts → Pushes IsQueue port v (ticket ∷ []) (λ w. w ≡ after_put (ticket ∷ []) v)

abbrev pub TakesKept : Type 0
TakesKept = (port : ℕ) (v : QueueHand) → 0 < v.parts → Takes IsQueue port v 1 (λ tickets w. w ≡ after_take tickets v)

-- one part is split off, and what two threads know is put together
abbrev pub SplitsKept : Type 0
SplitsKept = (port : ℕ) (v : QueueHand) → 1 < v.parts → Forks IsQueue port v (other_parts v) (one_part v)

abbrev pub JoinsKept : Type 0
JoinsKept = (port : ℕ) (v : QueueHand) (other : ℕ) (w : QueueHand) → Merges IsQueue port v other w (together v w) spent_hand

-- who has all parts knows what is left
abbrev pub LeftIsTold : Type 0
LeftIsTold = (port : ℕ) (v : QueueHand) → v.parts ≡ all_parts → Learns IsQueue port v (IsLeft v)

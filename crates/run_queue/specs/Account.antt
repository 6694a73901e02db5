-- The account of one queue of tickets: what its threads put, what they took, and what it holds.
use Rattle.std.specs.Prelude.{◌≡◌, ℕ, ◌+◌, ◌-◌, ◌^◌, List, [], ◌++◌, sum_by, All}
use mathlib.Core.Option.{some}
use lib.ListN.{get_elem?}
use Rattle.port_words.specs.declared.home.homes.Ticket.{Ticket}
use Rattle.run_queue.specs.declared.account.QueueHand.{QueueHand}

abbrev pub hand : ℕ → List Ticket → List Ticket → QueueHand
hand parts put taken = record { parts = parts; put = put; taken = taken }

-- the parts of the right to know all of a queue: as many as no queue has threads
abbrev pub all_parts : ℕ
all_parts = 2 ^ 40

abbrev pub first_hand : QueueHand
first_hand = hand all_parts [] []

abbrev pub spent_hand : QueueHand
spent_hand = hand 0 [] []

-- what is left where one part is split off, and that part
abbrev pub other_parts : QueueHand → QueueHand
other_parts v = hand (v.parts - 1) v.put v.taken

abbrev pub one_part : QueueHand → QueueHand
one_part v = hand 1 [] []

abbrev pub after_put : List Ticket → QueueHand → QueueHand
after_put tickets v = hand v.parts (v.put ++ tickets) v.taken

abbrev pub after_take : List Ticket → QueueHand → QueueHand
after_take tickets v = hand v.parts v.put (v.taken ++ tickets)

-- what two threads know together
abbrev pub together : QueueHand → QueueHand → QueueHand
together v w = hand (v.parts + w.parts) (v.put ++ w.put) (v.taken ++ w.taken)

-- the tickets put and taken, each with a weight
abbrev pub put_weight : (Ticket → ℕ) → QueueHand → ℕ
put_weight weight v = sum_by weight v.put

abbrev pub taken_weight : (Ticket → ℕ) → QueueHand → ℕ
taken_weight weight v = sum_by weight v.taken

abbrev pub parts_of : QueueHand → ℕ
parts_of v = v.parts

-- a thread without a part has put and taken nothing
pub record IsHand (v : QueueHand) : Type 0 where
  pub blank_put : v.parts ≡ 0 → v.put ≡ []
  pub blank_taken : v.parts ≡ 0 → v.taken ≡ []

-- The rule. Each ticket once: whatever each ticket weighs, what was taken and what the queue holds weigh together what was put
pub record IsQueue (tickets : List Ticket) (views : List QueueHand) : Type 0 where
  pub parts : sum_by parts_of views ≡ all_parts
  pub each_once : (weight : Ticket → ℕ) → sum_by (put_weight weight) views ≡ sum_by (taken_weight weight) views + sum_by weight tickets
  pub hands : All IsHand views

-- at one moment the rule held, a thread knew this, and the queue was empty
abbrev pub WasEmpty : QueueHand → Type 0
WasEmpty v = (views : List QueueHand) × (port : ℕ) × IsQueue [] views × (get_elem? views port ≡ some v)

-- these tickets are left of all that was put
abbrev pub IsLeft : QueueHand → List Ticket → Type 0
IsLeft v tickets = (weight : Ticket → ℕ) → put_weight weight v ≡ taken_weight weight v + sum_by weight tickets

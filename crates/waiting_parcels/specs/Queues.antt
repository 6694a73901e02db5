-- The queues of the senders, and the one list that they are together.
use Rattle.std.specs.Prelude.{◌≡◌, ◌==◌, ℕ, suc, zero, ◌<◌, ◌≤◌, ◌^◌, List, [], ◌∷◌, ◌++◌, length, map, filter, flat_map, Bool, false, ◌&&◌, Option, Some, None, All, IfSome, if◌then◌else◌, slice_index, slice_index_or, slice_set, swap_remove, nat_lt}
use Rattle.std.specs.List.{list_any}
use Rattle.std.specs.declared.collections.VecDeque.{VecDeque}
use Rattle.task_queue.specs.declared.item.Item.{Item}
use Rattle.port_lanes.specs.Parcels.{ParcelView}
use Rattle.port_lanes.specs.port_history.Laws.{waits_where_busy}
use Rattle.waiting_parcels.specs.declared.arrival.Arrival.{Arrival}
use Rattle.waiting_parcels.specs.declared.arrival.Head.{Head}

-- the queues as lists
abbrev pub lists : {Z : Type 0} → List (VecDeque Arrival Z) → List (List Arrival)
lists queues = map (λ q. q.items) queues

-- the queue of a sender
abbrev pub queue_of : ℕ → List (List Arrival) → List Arrival
queue_of sender queues = slice_index_or queues sender []

-- the tasks of all queues
abbrev pub arrivals : List (List Arrival) → List Arrival
arrivals queues = flat_map (λ q. q) queues

-- the tasks with this stamp
abbrev pub arrived_at : List Arrival → ℕ → List (Item ParcelView)
arrived_at all stamp = map (λ a. a.item) (filter (λ a. a.stamp == stamp) all)

-- what a function gives at 0, 1 and so on below a number
abbrev pub gathered : {A : Type 0} → (ℕ → List A) → ℕ → List A
gathered f zero = []
gathered f (suc k) = gathered f k ++ f k

-- the tasks with a stamp below `next`, by rising stamp
abbrev pub in_order : ℕ → List Arrival → List (Item ParcelView)
in_order next all = gathered (arrived_at all) next

-- the stamp of a queue's first task, if that task doesn't wait where the port is busy, or the port isn't busy
abbrev pub goes_at : Bool → List Arrival → Option ℕ
goes_at busy [] = None
goes_at busy (a ∷ later) = if busy && waits_where_busy a.item.value.task then None else Some a.stamp

-- what goes, goes no earlier than at this stamp
abbrev pub NotBefore : ℕ → Option ℕ → Type 0
NotBefore stamp None = Unit {0}
NotBefore stamp (Some other) = stamp ≤ other

-- of two choices among the first tasks, the one that came earlier: the one so far, and what goes at a place
abbrev pub earlier_of : Option Head → ℕ → Option ℕ → Option Head
earlier_of first place None = first
earlier_of None place (Some stamp) = Some (record { place = place; stamp = stamp })
earlier_of (Some head) place (Some stamp) = if nat_lt stamp head.stamp then Some (record { place = place; stamp = stamp }) else Some head

-- the head is the first task that goes of the queue of the sender at its place, and none of the senders seen has an earlier one
pub record IsHead (busy : Bool) (queues : List (List Arrival)) (waiting seen : List ℕ) (head : Head) : Type 0 where
  pub within : head.place < length waiting
  pub goes : goes_at busy (queue_of (slice_index waiting head.place) queues) ≡ Some head.stamp
  pub least : All (λ n. NotBefore head.stamp (goes_at busy (queue_of n queues))) seen

-- the choice among the senders seen: none has a first task that goes, or this one goes earliest
abbrev pub IsChoice : Bool → List (List Arrival) → List ℕ → List ℕ → Option Head → Type 0
IsChoice busy queues waiting seen None = All (λ n. goes_at busy (queue_of n queues) ≡ None) seen
IsChoice busy queues waiting seen (Some head) = IsHead busy queues waiting seen head

-- the queue of the sender at a place gave its first task, and its sender no longer waits where the queue is empty now
pub record IsTaken (queues new_queues : List (List Arrival)) (waiting new_waiting : List ℕ) (place : ℕ) (a : Arrival) : Type 0 where
  pub later : List Arrival
  pub was : queue_of (slice_index waiting place) queues ≡ a ∷ later
  pub now : new_queues ≡ slice_set queues (slice_index waiting place) later
  pub waits : new_waiting ≡ (if length later == 0 then swap_remove waiting place (slice_index waiting place) else waiting)

-- a task came to the end of its sender's queue, and its sender waits from now on where the queue was empty
pub record IsQueued (queues new_queues : List (List Arrival)) (waiting new_waiting : List ℕ) (a : Arrival) : Type 0 where
  pub now : new_queues ≡ slice_set queues a.item.sender (queue_of a.item.sender queues ++ a ∷ [])
  pub waits : new_waiting ≡ (if length (queue_of a.item.sender queues) == 0 then waiting ++ a.item.sender ∷ [] else waiting)

-- each stamp is below all later ones
abbrev pub IsRising : List Arrival → Type 0
IsRising [] = Unit {0}
IsRising (a ∷ later) = All (λ b. a.stamp < b.stamp) later × IsRising later

-- each task is in the queue of its sender, where the first queue is that of sender n
abbrev pub IsOwned : ℕ → List (List Arrival) → Type 0
IsOwned n [] = Unit {0}
IsOwned n (queue ∷ queues) = All (λ a. a.item.sender ≡ n) queue × IsOwned (suc n) queues

-- what always holds of the queues, the senders that wait, how many tasks wait in queues, the next stamp, and the newest task
pub record IsKept (queues : List (List Arrival)) (waiting : List ℕ) (queued next : ℕ) (newest : Option (Item ParcelView)) : Type 0 where
  pub own : IsOwned 0 queues
  pub rising : All IsRising queues
  pub past : All (λ a. a.stamp < next) (arrivals queues)
  pub single : (stamp : ℕ) → length (arrived_at (arrivals queues) stamp) ≤ 1
  pub known : All (λ n. n < length queues) waiting
  pub complete : (n : ℕ) → list_any (λ m. m == n) waiting ≡ false → queue_of n queues ≡ []
  pub came : IfSome newest (λ i. i.sender < length queues)
  pub counted : queued ≡ length (in_order next (arrivals queues))
  pub small : next ≤ 2 ^ 63

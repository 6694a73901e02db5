-- What a seat's owner and passes of a deque are.
use Rattle.std.specs.Prelude.{◌≡◌, ℕ, ◌-◌, ◌<◌, List, [], map, slice_get, Option, Some, option_map}
use Rattle.std.specs.declared.alloc.Global.{Global}
use Rattle.atomic_blocks.specs.Lent.{RowsId}
use Rattle.crossbeam_deque.specs.declared.handles.Worker.{Worker}
use Rattle.crossbeam_deque.specs.Handles.{Pass, view, IsPassOf, worker_deque, worker_flavor, worker_view}
use Rattle.port_words.specs.declared.home.homes.Ticket.{Ticket}
use Rattle.port_words.specs.sums.Counts.{once_below}
use Rattle.run_queue.specs.declared.account.QueueHand.{QueueHand}
use Rattle.run_queue.specs.Account.{hand, all_parts}

-- the owner of this deque, first in first out, with a part of the right to know all
abbrev pub IsOwnerOf : {P : Type 0} → RowsId × Global → Worker Ticket Global QueueHand P → Type 0
IsOwnerOf deque w = (worker_deque w ≡ deque) × (worker_flavor w ≡ 0) × (0 < (worker_view w).parts)

abbrev pub owner_view : {P : Type 0} → Option (Worker Ticket Global QueueHand P) → Option QueueHand
owner_view o = option_map worker_view o

abbrev pub guest_view : Pass Ticket QueueHand Global → QueueHand
guest_view p = view p

-- a pass of this deque, with a part
abbrev pub IsGuestOf : RowsId × Global → Pass Ticket QueueHand Global → Type 0
IsGuestOf deque p = IsPassOf deque p × (0 < (view p).parts)

-- the parts that an owner keeps where it gives one away
abbrev pub parts_left : {P : Type 0} → Worker Ticket Global QueueHand P → ℕ
parts_left w = (worker_view w).parts - 1

-- an owner that has put and taken nothing, with so many parts
abbrev pub IsFreshOwner : {P : Type 0} → ℕ → Worker Ticket Global QueueHand P → Type 0
IsFreshOwner parts w = (worker_view w ≡ hand parts [] []) × (worker_flavor w ≡ 0)

-- which deque each is the owner of
abbrev pub owner_ids : {P : Type 0} → List (Worker Ticket Global QueueHand P) → List RowsId
owner_ids owners = map (λ w. (worker_deque w).0) owners

-- the parts of an owner in the midst of giving the seat of this number a part of each deque: those below a number have given it
abbrev pub parts_given : ℕ → ℕ → ℕ → ℕ
parts_given seat at number = all_parts - seat - once_below at number

abbrev pub AreGiven : {P : Type 0} → ℕ → ℕ → List (Worker Ticket Global QueueHand P) → Type 0
AreGiven {P} seat at owners = (number : ℕ) (w : Worker Ticket Global QueueHand P) → slice_get owners number ≡ Some w → IsFreshOwner (parts_given seat at number) w

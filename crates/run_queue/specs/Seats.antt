-- The ends of the queues of tickets as contracts see them.
use Rattle.std.specs.Prelude.{◌≡◌, ◌≢◌, ◌⊎◌, ℕ, ◌+◌, ◌-◌, ◌^◌, ◌<◌, ◌≤◌, min, List, [], ◌∷◌, ◌++◌, length, map, replicate, sum_by, slice_get, All, Option, Some, None, IsSome, MatchOption, option_map, option_to_list}
use Rattle.std.proofs.Common.{zero, suc}
use Rattle.atomic_blocks.specs.Laid.{WebId}
use Rattle.atomic_blocks.specs.Lent.{RowsId}
use Rattle.port_words.specs.declared.home.homes.Ticket.{Ticket}
use Rattle.run_queue.specs.declared.account.QueueHand.{QueueHand}
use Rattle.run_queue.specs.Account.{hand, all_parts, after_put, after_take, together, put_weight, taken_weight, parts_of, WasEmpty}

-- The ends of one deque that one seat has: which deque it is, what the seat knows as its owner, where it is the owner, and by each of its passes, and how many
-- passes it has room for
pub record DequeKnown : Type 0 where
  pub deque : RowsId
  pub own : Option QueueHand
  pub guests : List QueueHand
  pub most : ℕ

-- an end of the injector: which injector it is, and what it knows
pub record EntryKnown : Type 0 where
  pub injector : WebId
  pub hand : QueueHand

-- A scheduler's seat: the number of its own deque, how many seats it was joined of, its ends of each deque, by number, and its end of the injector
pub record RunKnown : Type 0 where
  pub number : ℕ
  pub seats : ℕ
  pub deques : List DequeKnown
  pub entry : EntryKnown

abbrev pub deque_known : RowsId → Option QueueHand → List QueueHand → ℕ → DequeKnown
deque_known deque own guests most = record { deque = deque; own = own; guests = guests; most = most }

abbrev pub entry_known : WebId → QueueHand → EntryKnown
entry_known injector h = record { injector = injector; hand = h }

abbrev pub changed_first : {A : Type 0} → (A → A) → List A → List A
changed_first f [] = []
changed_first f (x ∷ xs) = f x ∷ xs

abbrev pub changed_at : {A : Type 0} → (A → A) → ℕ → List A → List A
changed_at f n [] = []
changed_at f zero (x ∷ xs) = f x ∷ xs
changed_at f (suc n) (x ∷ xs) = x ∷ changed_at f n xs

-- the owner put tickets, or took them, and a guest took them
abbrev pub put_own : List Ticket → DequeKnown → DequeKnown
put_own tickets k = record k { own = option_map (after_put tickets) k.own }

abbrev pub took_own : List Ticket → DequeKnown → DequeKnown
took_own tickets k = record k { own = option_map (after_take tickets) k.own }

abbrev pub stole : List Ticket → DequeKnown → DequeKnown
stole tickets k = record k { guests = changed_first (after_take tickets) k.guests }

-- the deque was empty at one moment, as its owner knows, or as a guest
abbrev pub OwnerSawEmpty : DequeKnown → Type 0
OwnerSawEmpty k = MatchOption k.own ⊥ WasEmpty

abbrev pub first_saw_empty : List QueueHand → Type 0
first_saw_empty [] = ⊥
first_saw_empty (v ∷ vs) = WasEmpty v

abbrev pub GuestSawEmpty : DequeKnown → Type 0
GuestSawEmpty k = first_saw_empty k.guests

abbrev pub EntrySawEmpty : EntryKnown → Type 0
EntrySawEmpty k = WasEmpty k.hand

-- one owner there is, and it is in either
abbrev pub the_own : Option QueueHand → Option QueueHand → Option QueueHand
the_own None other = other
the_own (Some v) other = Some v

abbrev pub joined_deque : DequeKnown → DequeKnown → DequeKnown
joined_deque v w = record v { own = the_own v.own w.own; guests = v.guests ++ w.guests }

-- tickets were put into the injector, or taken of it
abbrev pub put_entry : List Ticket → EntryKnown → EntryKnown
put_entry tickets k = record k { hand = after_put tickets k.hand }

abbrev pub took_entry : List Ticket → EntryKnown → EntryKnown
took_entry tickets k = record k { hand = after_take tickets k.hand }

abbrev pub joined_entry : EntryKnown → EntryKnown → EntryKnown
joined_entry v w = record v { hand = together v.hand w.hand }

-- all that the ends of a deque know
abbrev pub hands_of : DequeKnown → List QueueHand
hands_of k = option_to_list k.own ++ k.guests

-- these ends are all that a deque has, and the owner's is among them
pub record HasAll (k : DequeKnown) : Type 0 where
  pub owner : IsSome k.own
  pub parts : sum_by parts_of (hands_of k) ≡ all_parts

-- of the tickets that these threads put and took, these are left
abbrev pub IsRest : List QueueHand → List Ticket → Type 0
IsRest hands tickets = (weight : Ticket → ℕ) → sum_by (put_weight weight) hands ≡ sum_by (taken_weight weight) hands + sum_by weight tickets

-- two threads' accounts that are one
pub record IsSameAccount (hands hands' : List QueueHand) : Type 0 where
  pub parts : sum_by parts_of hands ≡ sum_by parts_of hands'
  pub put : (weight : Ticket → ℕ) → sum_by (put_weight weight) hands ≡ sum_by (put_weight weight) hands'
  pub taken : (weight : Ticket → ℕ) → sum_by (taken_weight weight) hands ≡ sum_by (taken_weight weight) hands'

abbrev pub run_known : ℕ → ℕ → List DequeKnown → EntryKnown → RunKnown
run_known number seats deques entry = record { number = number; seats = seats; deques = deques; entry = entry }

-- a seat's ends of a deque that was just made: one pass, and what the owner knows, where the seat has it
abbrev pub guest_end : ℕ → RowsId → DequeKnown
guest_end most deque = deque_known deque None (hand 1 [] [] ∷ []) most

abbrev pub with_own : QueueHand → DequeKnown → DequeKnown
with_own v k = record k { own = Some v }

-- What the seats of one run queue are, before the first ticket. Each scheduler has a pass of each deque and a part of the injector, and the owner of each deque
-- and the injector's first end have the other parts
abbrev pub fresh_seat : List RowsId → WebId → ℕ → ℕ → RunKnown
fresh_seat deques injector number parts =
    run_known number 1 (changed_at (with_own (hand (all_parts - length deques) [] [])) number (map (guest_end (length deques)) deques)) (entry_known injector (hand parts [] []))

-- the parts of the injector that the seat of this number has: the first has those that no other end has
abbrev pub entry_parts : ℕ → ℕ → ℕ → ℕ
entry_parts schedulers entries zero = 1 + (all_parts - entries - schedulers)
entry_parts schedulers entries (suc n) = 1

-- each seat as it is made, with one part of the injector
abbrev pub AreFresh : List RowsId → WebId → List RunKnown → Type 0
AreFresh deques injector seats = (number : ℕ) (s : RunKnown) → slice_get seats number ≡ Some s → s ≡ fresh_seat deques injector number 1

-- the seats of schedulers and the ends of the injector of one run queue, before the first ticket
pub record AreSeats (schedulers entries : ℕ) (seats : List RunKnown) (others : List EntryKnown) : Type 0 where
  pub deques : List RowsId
  pub injector : WebId
  pub deques_count : length deques ≡ schedulers
  pub seats_count : length seats ≡ schedulers
  pub each : (number : ℕ) (s : RunKnown) → slice_get seats number ≡ Some s → s ≡ fresh_seat deques injector number (entry_parts schedulers entries number)
  pub ends : others ≡ replicate entries (entry_known injector (hand 1 [] []))

-- the deque of this number was found empty
abbrev pub SawEmptyAt : (DequeKnown → Type 0) → ℕ → List DequeKnown → Type 0
SawEmptyAt Saw number deques = (k : DequeKnown) → slice_get deques number ≡ Some k → Saw k

abbrev pub HasGuest : DequeKnown → Type 0
HasGuest k = 0 < length k.guests

-- each of the deques below this number was found empty, but the seat's own
abbrev pub OthersSawEmpty : ℕ → ℕ → List DequeKnown → Type 0
OthersSawEmpty own below deques = (n : ℕ) → n < below → n ≢ own → SawEmptyAt GuestSawEmpty n deques

-- a change that leaves the owner where it is, and the number of passes
pub record KeepsShape (old new : DequeKnown) : Type 0 where
  pub deque : new.deque ≡ old.deque
  pub owner : IsSome old.own → IsSome new.own
  pub guests : length new.guests ≡ length old.guests
  pub room : new.most ≡ old.most

-- a ticket was stolen of the first of the other deques, by rising number, that wasn't found empty
pub record Stole (own : ℕ) (ticket : Ticket) (old new : List DequeKnown) : Type 0 where
  pub deque : ℕ
  pub other : deque ≢ own
  pub exists : deque < length old
  pub before : OthersSawEmpty own deque old
  pub stolen : new ≡ changed_at (stole (ticket ∷ [])) deque old

-- what holds of each seat: it owns the deque of its number, and has a pass of each deque
pub record IsDequeEnd (deques seats : ℕ) (k : DequeKnown) : Type 0 where
  pub guest : 0 < length k.guests
  pub few : length k.guests ≤ seats
  pub room : deques ≤ k.most

abbrev pub OwnsItsDeque : ℕ → List DequeKnown → Type 0
OwnsItsDeque number deques = (number < length deques) × ((k : DequeKnown) → slice_get deques number ≡ Some k → IsSome k.own)

-- what holds of a seat's deques holds after the change
pub record KeepsEnds (old new : List DequeKnown) : Type 0 where
  pub same_length : length new ≡ length old
  pub owns : (number : ℕ) → OwnsItsDeque number old → OwnsItsDeque number new
  pub ends : (seats : ℕ) → All (IsDequeEnd (length old) seats) old → All (IsDequeEnd (length new) seats) new

-- the ends of one deque, and the room for the passes of both
abbrev pub CanJoin : DequeKnown → DequeKnown → Type 0
CanJoin v w = (w.deque ≡ v.deque) × (length v.guests + length w.guests ≤ v.most)

abbrev pub CanJoinEach : List DequeKnown → List DequeKnown → Type 0
CanJoinEach vs ws = (length ws ≡ length vs) × ((n : ℕ) (v w : DequeKnown) → slice_get vs n ≡ Some v → slice_get ws n ≡ Some w → CanJoin v w)

abbrev pub joined_deques : List DequeKnown → List DequeKnown → List DequeKnown
joined_deques [] ws = []
joined_deques (v ∷ vs) [] = v ∷ vs
joined_deques (v ∷ vs) (w ∷ ws) = joined_deque v w ∷ joined_deques vs ws

abbrev pub joined_seat : RunKnown → RunKnown → RunKnown
joined_seat v w = run_known v.number (v.seats + w.seats) (joined_deques v.deques w.deques) (joined_entry v.entry w.entry)

-- two seats of one run queue
pub record AreOfOneQueue (v w : RunKnown) : Type 0 where
  pub deques : map (λ k. k.deque) v.deques ≡ map (λ k. k.deque) w.deques
  pub injector : v.entry.injector ≡ w.entry.injector
  pub apart : v.seats + w.seats ≤ length v.deques

-- the owner of a seat's deque put a ticket, or took one
abbrev pub put_by_owner : Ticket → RunKnown → RunKnown
put_by_owner ticket s = record s { deques = changed_at (put_own (ticket ∷ [])) s.number s.deques }

-- its own deque was found empty at a step
abbrev pub OwnSawEmpty : RunKnown → Type 0
OwnSawEmpty s = SawEmptyAt OwnerSawEmpty s.number s.deques

-- A ticket was taken of the seat's own deque; or, where this was found empty, of the injector; or, where both were found empty, of another deque
pub record TookOwn (ticket : Ticket) (old new : RunKnown) : Type 0 where
  pub taken : new ≡ record old { deques = changed_at (took_own (ticket ∷ [])) old.number old.deques }

pub record TookEntry (ticket : Ticket) (old new : RunKnown) : Type 0 where
  pub own : OwnSawEmpty old
  pub taken : new ≡ record old { entry = took_entry (ticket ∷ []) old.entry }

pub record TookOther (ticket : Ticket) (old new : RunKnown) : Type 0 where
  pub own : OwnSawEmpty old
  pub entry : EntrySawEmpty old.entry
  pub taken : Stole old.number ticket old.deques new.deques
  pub same : new ≡ record old { deques = new.deques }

abbrev pub Took : Ticket → RunKnown → RunKnown → Type 0
Took ticket old new = TookOwn ticket old new ⊎ (TookEntry ticket old new ⊎ TookOther ticket old new)

-- each queue that the seat can take from was found empty at a step
pub record EachSawEmpty (s : RunKnown) : Type 0 where
  pub own : OwnSawEmpty s
  pub entry : EntrySawEmpty s.entry
  pub others : OthersSawEmpty s.number (length s.deques) s.deques

-- this seat has every part of each queue, and the owner of each deque
pub record HasEvery (s : RunKnown) : Type 0 where
  pub deques : All HasAll s.deques
  pub entry : s.entry.hand.parts ≡ all_parts

-- a number as a count of 64 bits shows it, which goes no further than the greatest one
abbrev pub counted : ℕ → ℕ
counted n = min n (2 ^ 64 - 1)

-- how many tickets the passes of a deque took, which its owner put there
abbrev pub stolen_in : List QueueHand → ℕ
stolen_in guests = sum_by (λ v. length v.taken) guests

abbrev pub stolen_of : DequeKnown → ℕ
stolen_of k = stolen_in k.guests

-- how many tickets a seat took of the deques of others
abbrev pub stolen_by : RunKnown → ℕ
stolen_by s = sum_by stolen_of s.deques

-- the tickets that a seat put, and that it took, each with a weight
abbrev pub put_by : (Ticket → ℕ) → RunKnown → ℕ
put_by weight s = sum_by (λ k. sum_by (put_weight weight) (hands_of k)) s.deques + put_weight weight s.entry.hand

abbrev pub taken_by : (Ticket → ℕ) → RunKnown → ℕ
taken_by weight s = sum_by (λ k. sum_by (taken_weight weight) (hands_of k)) s.deques + taken_weight weight s.entry.hand

-- of the tickets put into these deques, these are left
abbrev pub put_in_deques : (Ticket → ℕ) → List DequeKnown → ℕ
put_in_deques weight deques = sum_by (λ k. sum_by (put_weight weight) (hands_of k)) deques

abbrev pub taken_of_deques : (Ticket → ℕ) → List DequeKnown → ℕ
taken_of_deques weight deques = sum_by (λ k. sum_by (taken_weight weight) (hands_of k)) deques

abbrev pub AreLeftOf : List DequeKnown → List Ticket → Type 0
AreLeftOf deques left = (weight : Ticket → ℕ) → put_in_deques weight deques ≡ taken_of_deques weight deques + sum_by weight left

-- Of the tickets that a seat put, with all seats that were joined into it, these are left, each once: the others were taken
abbrev pub IsLeftOf : RunKnown → List Ticket → Type 0
IsLeftOf s left = (weight : Ticket → ℕ) → put_by weight s ≡ taken_by weight s + sum_by weight left

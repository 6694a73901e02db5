-- The rule of a lane: what its queue holds, and what each of its ends knows.
use Rattle.std.specs.Prelude.{◌≡◌, ◌≢◌, ℕ, ◌+◌, ◌<◌, ◌≤◌, true, false, Option, Some, None, List, [], ◌∷◌, ◌++◌, All, AllPairs}
use mathlib.Core.Option as seat
use lib.ListN.{get_elem?}
use Rattle.task_queue.specs.declared.item.Item.{Item}
use Rattle.task_queue.specs.declared.protocol.Ended.{Ended}
use Rattle.task_queue.specs.declared.protocol.Hand.{Hand}
use Rattle.task_queue.specs.Items.{of, IsNumbered}

module _ {T : Type 0} where
  -- A sender whose end was taken in, of a lane in which `made` ends were made and `log` was put: no pass has its number, and what
  -- it sent is what the log has of it. End 0 knew how many ends were made
  pub record IsEnded (seats : ℕ → seat.Option ℕ) (made : ℕ) (log : List (Item T)) (e : Ended T) : Type 0 where
    pub unseated : seats e.number ≡ seat.none
    pub below : e.number < made
    pub sent : of e.number log ≡ e.sent
    pub counts : e.number ≡ 0 → e.made ≡ made

module _ {T K : Type 0} where
  -- the hand of a sender
  abbrev pub sender_hand : Option K → ℕ → ℕ → List T → Hand T K
  sender_hand key number made sent =
      record { key = key; sends = true; number = number; made = made; sent = sent; takes = false; taken = []; ended = [] }

  -- the hand of the taker
  abbrev pub taker_hand : Option K → List (Item T) → List (Ended T) → Hand T K
  taker_hand key taken ended =
      record { key = key; sends = false; number = 0; made = 0; sent = []; takes = true; taken = taken; ended = ended }

  -- the hand of an end that was taken in
  abbrev pub spent_hand : Hand T K
  spent_hand = record { key = None; sends = false; number = 0; made = 0; sent = []; takes = false; taken = []; ended = [] }

  -- hands after a step
  abbrev pub after_split : Hand T K → Hand T K
  after_split v = record v { made = v.made + 1 }

  abbrev pub split_off : Hand T K → Hand T K
  split_off v = sender_hand v.key v.made 0 []

  abbrev pub after_put : Hand T K → Item T → Hand T K
  after_put v x = record v { sent = v.sent ++ x.value ∷ [] }

  abbrev pub after_take : Hand T K → Item T → Hand T K
  after_take v x = record v { taken = v.taken ++ x ∷ [] }

  abbrev pub after_take_in : Hand T K → Hand T K → Hand T K
  after_take_in v w = record v { ended = v.ended ++ record { number = w.number; made = w.made; sent = w.sent } ∷ [] }

  -- the lane has a key, and the item fits it and its sender
  abbrev pub FitsKey : (K → ℕ → T → Type 0) → Option K → Item T → Type 0
  FitsKey fits key x = (k : K) × (key ≡ Some k) × fits k x.sender x.value

  -- A sender of a lane with this key: `seats` gives its number to its own pass, and the rest as above
  pub record IsSender (key : Option K) (seats : ℕ → seat.Option ℕ) (made : ℕ) (log : List (Item T)) (pass : ℕ) (v : Hand T K) : Type 0 where
    pub has_key : v.key ≡ key
    pub seated : seats v.number ≡ seat.some pass
    pub below : v.number < made
    pub sent : of v.number log ≡ v.sent
    pub counts : v.number ≡ 0 → v.made ≡ made

  -- the taker, which knows what was taken and which senders ended
  pub record IsTaker (key : Option K) (reader : ℕ) (seats : ℕ → seat.Option ℕ) (made : ℕ) (log taken : List (Item T)) (pass : ℕ) (v : Hand T K) : Type 0 where
    pub has_key : v.key ≡ key
    pub alone : pass ≡ reader
    pub took : v.taken ≡ taken
    pub ended : All (IsEnded seats made log) v.ended
    pub differ : AllPairs (λ d e. d.number ≢ e.number) v.ended

  -- what an end that sends, and one that takes, knows is so
  pub record IsHand (key : Option K) (reader : ℕ) (seats : ℕ → seat.Option ℕ) (made : ℕ) (log taken : List (Item T)) (pass : ℕ) (v : Hand T K) : Type 0 where
    pub sender : v.sends ≡ true → IsSender key seats made log pass v
    pub taker : v.takes ≡ true → IsTaker key reader seats made log taken pass v

  -- Each item of the log has the number of an end that was made, fits it and the key, and is numbered by its place among its
  -- sender's. A number that no end has got has no pass
  pub record IsState (fits : K → ℕ → T → Type 0) (key : Option K) (reader : ℕ) (seats : ℕ → seat.Option ℕ) (made : ℕ) (log taken : List (Item T)) (views : List (Hand T K)) : Type 0 where
    pub opened : key ≡ None → made ≡ 0
    pub numbered : IsNumbered log
    pub fit : All (FitsKey fits key) log
    pub known : All (λ x. x.sender < made) log
    pub unmade : (n : ℕ) → made ≤ n → seats n ≡ seat.none
    pub hands : (pass : ℕ) (v : Hand T K) → get_elem? views pass ≡ seat.some v → IsHand key reader seats made log taken pass v

  -- The rule. There is a key, one pass that takes, the pass of each sender that has not ended, how many ends were made, and what
  -- was taken; what was put is what was taken and then what the queue holds
  abbrev pub Lane : (K → ℕ → T → Type 0) → List (Item T) → List (Hand T K) → Type 0
  Lane fits items views =
      (key : Option K) × (reader : ℕ) × (seats : ℕ → seat.Option ℕ) × (made : ℕ) × (taken : List (Item T))
      × IsState fits key reader seats made (taken ++ items) taken views

  -- the rule held at a moment at which the queue held these items and one end knew this
  abbrev pub Stood : (K → ℕ → T → Type 0) → List (Item T) → Hand T K → Type 0
  Stood fits items v = (pass : ℕ) × (views : List (Hand T K)) × Lane fits items views × (get_elem? views pass ≡ seat.some v)

  -- and the item was at the front
  abbrev pub WasFront : (K → ℕ → T → Type 0) → Hand T K → Item T → Type 0
  WasFront fits v x = (items : List (Item T)) × Stood fits (x ∷ items) v

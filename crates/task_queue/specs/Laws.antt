-- What holds of every lane, whatever its threads do and in whatever order.
use Rattle.std.specs.Prelude.{◌≡◌, ℕ, true, Some, None, List, [], ◌∷◌, ◌++◌, length, All}
use mathlib.Core.Option as seat
use mathlib.Core.List.{IsPrefix}
use lib.ListN.{get_elem?}
use Rattle.crossbeam_queue.specs.Fifo.{Pushes, Pops, Forks, Merges}
use Rattle.task_queue.specs.declared.item.Item.{Item}
use Rattle.task_queue.specs.declared.protocol.Hand.{Hand}
use Rattle.task_queue.specs.Items.{of}
use Rattle.task_queue.specs.Lane.{Lane, Stood, FitsKey, taker_hand, sender_hand, spent_hand, after_split, split_off, after_put, after_take, after_take_in}

module _ {T K : Type 0} (fits : K → ℕ → T → Type 0) where
  -- Two ends at a moment at which the rule holds and the queue holds these items: one that takes, and one that sends
  pub record AreEnds (items : List (Item T)) (v w : Hand T K) : Type 0 where
    pub views : List (Hand T K)
    pub rule : Lane fits items views
    pub taker : (pass : ℕ) × (get_elem? views pass ≡ seat.some v)
    pub takes : v.takes ≡ true
    pub sender : (pass : ℕ) × (get_elem? views pass ≡ seat.some w)
    pub sends : w.sends ≡ true

  -- what was taken of a sender is a prefix of what it sent
  abbrev pub TakenIsPrefix : Type 0
  TakenIsPrefix = (items : List (Item T)) (v w : Hand T K) → AreEnds items v w → IsPrefix (of w.number v.taken) w.sent

  -- and what is left of it is in the queue, in order
  abbrev pub LeftIsQueued : Type 0
  LeftIsQueued = (items : List (Item T)) (v w : Hand T K) → AreEnds items v w → of w.number v.taken ++ of w.number items ≡ w.sent

  -- the same of each sender whose end was taken in, at a moment at which the rule holds and the queue holds these items
  abbrev pub EndedIsPrefix : Type 0
  EndedIsPrefix = (items : List (Item T)) (v : Hand T K) → v.takes ≡ true → Stood fits items v → All (λ e. IsPrefix (of e.number v.taken) e.sent) v.ended

  abbrev pub EndedIsQueued : Type 0
  EndedIsQueued = (items : List (Item T)) (v : Hand T K) → v.takes ≡ true → Stood fits items v → All (λ e. of e.number v.taken ++ of e.number items ≡ e.sent) v.ended

  -- a new lane meets the rule, before and after it gets its key and its end 0
  abbrev pub NewLaneKept : Type 0
  NewLaneKept = (pass : ℕ) (k : K) → Lane fits [] (taker_hand None [] [] ∷ [])
      × Forks (Lane fits) pass (taker_hand None [] []) (taker_hand (Some k) [] []) (sender_hand (Some k) 0 1 [])

  -- end 0 splits off an end
  abbrev pub SplitsKept : Type 0
  SplitsKept = (pass : ℕ) (v : Hand T K) → v.sends ≡ true → v.number ≡ 0 → Forks (Lane fits) pass v (after_split v) (split_off v)

  -- a sender puts an item that has its number, its next place and a value that fits
  abbrev pub PutsKept : Type 0
  PutsKept = (n pass : ℕ) (v : Hand T K) (x : Item T) → v.sends ≡ true → FitsKey fits v.key x → x.sender ≡ v.number → x.seq ≡ length v.sent
      → Pushes (Lane fits) n pass v x (λ w. w ≡ after_put v x)

  -- the taker takes the front
  abbrev pub TakesKept : Type 0
  TakesKept = (pass : ℕ) (v : Hand T K) → v.takes ≡ true → Pops (Lane fits) pass v (λ x w. w ≡ after_take v x)

  -- the taker takes in a sender
  abbrev pub TakesInKept : Type 0
  TakesInKept = (pass : ℕ) (v : Hand T K) (other : ℕ) (w : Hand T K) → v.takes ≡ true → w.sends ≡ true
      → Merges (Lane fits) pass v other w (after_take_in v w) spent_hand

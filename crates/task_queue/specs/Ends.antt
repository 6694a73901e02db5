-- What contracts see of the two kinds of end.
use Rattle.std.specs.Prelude.{◌≡◌, ◌≢◌, ℕ, ◌<◌, Some, List, [], All, AllPairs}
use mathlib.Core.List.{IsPrefix}
use Rattle.atomic_blocks.specs.Laid.{WebId}
use Rattle.task_queue.specs.declared.item.Item.{Item}
use Rattle.task_queue.specs.declared.protocol.Ended.{Ended}
use Rattle.task_queue.specs.Items.{of, IsNumbered}
use Rattle.task_queue.specs.Lane.{taker_hand, Stood, WasFront as WasFrontOf}

-- which lane an end is of
abbrev pub LaneId : Type 0
LaneId = WebId

-- A sending end: its lane and the lane's key, its number, how many ends it made (end 0 alone makes any, and counts itself), and
-- what it sent
pub record Sending (T K : Type 0) : Type 0 where
  pub lane : LaneId
  pub key : K
  pub number : ℕ
  pub made : ℕ
  pub sent : List T

-- the taking end: its lane and the lane's key, what was taken, and the senders whose ends were taken in
pub record Taking (T K : Type 0) : Type 0 where
  pub lane : LaneId
  pub key : K
  pub taken : List (Item T)
  pub ended : List (Ended T)

module _ {T K : Type 0} where
  -- what the taking end keeps of a sending end that it takes in
  abbrev pub ended_of : Sending T K → Ended T
  ended_of end = record { number = end.number; made = end.made; sent = end.sent }

  -- What holds of a taking end at each of its takes: the numbers of each sender's items are 0, 1, 2 and so on; the items fit; what
  -- was taken of an ended sender is a prefix of what it sent; ended senders have different numbers; once end 0 has ended, all
  -- numbers are below the count of ends that it made
  pub record KeepsOrder (fits : K → ℕ → T → Type 0) (t : Taking T K) : Type 0 where
    pub numbered : IsNumbered t.taken
    pub fit : All (λ x. fits t.key x.sender x.value) t.taken
    pub prefix : All (λ e. IsPrefix (of e.number t.taken) e.sent) t.ended
    pub differ : AllPairs (λ d e. d.number ≢ e.number) t.ended
    pub counted : All (λ e. e.number ≡ 0 → All (λ x. x.sender < e.made) t.taken × All (λ d. d.number < e.made) t.ended) t.ended

  -- all that an ended sender sent was taken
  abbrev pub TookAll : Taking T K → Type 0
  TookAll t = All (λ e. of e.number t.taken ≡ e.sent) t.ended

  -- at one moment the rule held, this end knew this, and the queue was empty
  abbrev pub WasEmpty : (K → ℕ → T → Type 0) → Taking T K → Type 0
  WasEmpty fits t = Stood fits [] (taker_hand (Some t.key) t.taken t.ended)

  -- at one moment the rule held, this end knew this, and the item was at the front of the queue
  abbrev pub WasFront : (K → ℕ → T → Type 0) → Taking T K → Item T → Type 0
  WasFront fits t x = WasFrontOf fits (taker_hand (Some t.key) t.taken t.ended) x

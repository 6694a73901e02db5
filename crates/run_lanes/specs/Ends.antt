-- The ends of lanes, as they are made and as they are taken in.
use Rattle.std.specs.Prelude.{◌≡◌, ◌<◌, ◌==◌, ℕ, if◌then◌else◌, List, [], ◌∷◌, ◌++◌, length, map, All, slice_index_or}
use Rattle.task_queue.specs.declared.item.Item.{Item}
use Rattle.task_queue.specs.declared.protocol.Ended.{Ended}
use Rattle.task_queue.specs.Items.{of}
use Rattle.task_queue.specs.Ends.{Sending, Taking, KeepsOrder, TookAll, ended_of}
use Rattle.run_lanes.specs.Rows.{IsColumn}

-- how many ends the end of this number made, of a lane that has so many: the first one made all
abbrev pub made_by : ℕ → ℕ → ℕ
made_by ends number = if number == 0 then ends else 0

module _ {T K : Type 0} where
  -- the end of this number of a lane that has so many, before anything was sent
  abbrev pub new_end : Taking T K → ℕ → ℕ → Sending T K
  new_end taker ends number = record { lane = taker.lane; key = taker.key; number = number; made = made_by ends number; sent = [] }

  -- nothing was taken from the lane, and no end was taken in
  pub record IsUntaken (key : K) (taker : Taking T K) : Type 0 where
    pub key_is : taker.key ≡ key
    pub taken : taker.taken ≡ []
    pub ended : taker.ended ≡ []

  -- all ends of a lane, by their numbers: this is the first of them, before any other was made
  pub record AreSplitOf (first : Sending T K) (ends : ℕ) (all : List (Sending T K)) : Type 0 where
    pub many : length all ≡ ends
    pub each : (number : ℕ) (d : Sending T K) → number < ends → slice_index_or all number d ≡ record first { number = number; made = made_by ends number; sent = [] }

  -- all ends of a lane, by their numbers
  pub record AreAllEnds (taker : Taking T K) (ends : ℕ) (all : List (Sending T K)) : Type 0 where
    pub many : length all ≡ ends
    pub each : (number : ℕ) (d : Sending T K) → number < ends → slice_index_or all number d ≡ new_end taker ends number

  -- all ends of each lane, in the order of the lanes
  pub record AreAllRows (takers : List (Taking T K)) (ends : ℕ) (rows : List (List (Sending T K))) : Type 0 where
    pub many : length rows ≡ length takers
    pub each : (lane : ℕ) (t : Taking T K) (d : List (Sending T K)) → lane < length takers → AreAllEnds (slice_index_or takers lane t) ends (slice_index_or rows lane d)

  -- One end of each of so many lanes, in the order of the lanes: the one with this number
  pub record AreEndsOf (lanes : ℕ) (taker : ℕ → Taking T K) (ends number : ℕ) (mine : List (Sending T K)) : Type 0 where
    pub many : length mine ≡ lanes
    pub each : (lane : ℕ) (d : Sending T K) → lane < lanes → slice_index_or mine lane d ≡ new_end (taker lane) ends number

  -- the ends of the lanes, by their numbers
  pub record AreEndColumns (takers : List (Taking T K)) (ends : ℕ) (columns : List (List (Sending T K))) : Type 0 where
    pub many : length columns ≡ ends
    pub long : (number : ℕ) (d : List (Sending T K)) → number < ends → length (slice_index_or columns number d) ≡ length takers
    pub each : (number : ℕ) (t : Taking T K) (d : List (Sending T K)) → number < ends → AreEndsOf (length takers) (λ lane. slice_index_or takers lane t) ends number (slice_index_or columns number d)

  -- the taking end after it took these in
  abbrev pub taken_in : Taking T K → List (Sending T K) → Taking T K
  taken_in taker ends = record taker { ended = taker.ended ++ map ended_of ends }

  -- one end of each lane, in their order
  pub record AreOfLanes (takers : List (Taking T K)) (ends : List (Sending T K)) : Type 0 where
    pub many : length ends ≡ length takers
    pub each : (lane : ℕ) (t : Taking T K) (d : Sending T K) → lane < length takers → (slice_index_or ends lane d).lane ≡ (slice_index_or takers lane t).lane

  -- so is each row
  pub record AreLaneRows (takers : List (Taking T K)) (rows : List (List (Sending T K))) : Type 0 where
    pub long : (r : ℕ) (row : List (Sending T K)) → r < length rows → length (slice_index_or rows r row) ≡ length takers
    pub lanes : (r lane : ℕ) (row : List (Sending T K)) (t : Taking T K) (d : Sending T K) → r < length rows → lane < length takers
        → (slice_index_or (slice_index_or rows r row) lane d).lane ≡ (slice_index_or takers lane t).lane

  -- for each lane ends of it
  pub record AreLaneColumns (takers : List (Taking T K)) (columns : List (List (Sending T K))) : Type 0 where
    pub many : length columns ≡ length takers
    pub lanes : (lane : ℕ) (t : Taking T K) (column : List (Sending T K)) → lane < length takers
        → All (λ e. e.lane ≡ (slice_index_or takers lane t).lane) (slice_index_or columns lane column)

  -- each lane's taking end took in the end at its place
  pub record TakesEachIn (old : List (Taking T K)) (ends : List (Sending T K)) (new : List (Taking T K)) : Type 0 where
    pub many : length new ≡ length old
    pub each : (lane : ℕ) (t u : Taking T K) (d : Sending T K) → lane < length old
        → slice_index_or new lane t ≡ taken_in (slice_index_or old lane u) (slice_index_or ends lane d ∷ [])

-- where these ends were taken in, and perhaps more later, and all that the ended senders sent was taken, all that each of these sent was
abbrev pub AllOfEachIsTaken : Type 0 → Type 0 → Type 0
AllOfEachIsTaken T K = (old new : Taking T K) (ends : List (Sending T K)) (later : List (Ended T)) → new.ended ≡ (taken_in old ends).ended ++ later → TookAll new
    → All (λ e. of e.number new.taken ≡ e.sent) ends

-- items were taken until the lane was found empty: all that the ended senders sent
pub record Emptied {T K : Type 0} (fits : K → ℕ → T → Type 0) (old new : Taking T K) : Type 0 where
  pub more : List (Item T)
  pub is : new ≡ record old { taken = old.taken ++ more }
  pub all : TookAll new
  pub order : KeepsOrder fits new

-- the taking end of the lane at this place took in what the rows have there, and the last one behind, and then it took all that was left
pub record EmptiedColumn {T K : Type 0} (fits : K → ℕ → T → Type 0) (place : ℕ) (rows : List (List (Sending T K))) (last : Sending T K) (old new : Taking T K) : Type 0 where
  pub ends : List (Sending T K)
  pub column : IsColumn place rows ends
  pub emptied : Emptied fits (record old { ended = old.ended ++ map ended_of ends ++ ended_of last ∷ [] }) new

-- so did that of each lane
pub record HaveEmptied {T K : Type 0} (fits : K → ℕ → T → Type 0) (rows : List (List (Sending T K))) (last : List (Sending T K)) (old new : List (Taking T K)) : Type 0 where
  pub many : length new ≡ length old
  pub each : (lane : ℕ) (t u : Taking T K) (d : Sending T K) → lane < length old
      → EmptiedColumn fits lane rows (slice_index_or last lane d) (slice_index_or old lane t) (slice_index_or new lane u)

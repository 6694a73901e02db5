-- The word that tells when a run is over, and what the seats together know of it.
use Rattle.std.specs.Prelude.{◌≡◌, ℕ, ◌+◌, ◌/◌, ◌%◌, ◌^◌, ◌<◌, ◌≤◌, Bool, true, false, List, [], ◌∷◌, ◌++◌, ◌==◌, ◌&&◌, nat_lt, min, length, take, drop, sum_by, count_by, All, Option, Some, None, is_some, slice_index}
use Rattle.std.proofs.Common.{zero, suc}
use Rattle.atomic_table.specs.Table.{State, Me}
use Rattle.atomic_table.specs.Seated.{TableId}
use Rattle.port_words.specs.sums.Counts.{once_below}
use Rattle.port_words.specs.declared.over.view.OverSize.{OverSize}
use Rattle.port_words.specs.declared.over.view.OverPlace.{OverPlace}
use Rattle.port_words.specs.declared.over.view.OverView.{OverView}

-- the number of counted seats that have finished
abbrev pub finished_part : ℕ → ℕ
finished_part word = word % 2 ^ 32

-- the number of stops
abbrev pub stopped_part : ℕ → ℕ
stopped_part word = word / 2 ^ 32

abbrev pub over_size : ℕ → ℕ → OverSize
over_size counted seats = record { counted = counted; seats = seats }

abbrev pub over_view : OverSize → List OverPlace → List ℕ → OverView
over_view size places found = record { size = size; places = places; found = found }

-- a seat that has not finished and not stopped
abbrev pub fresh_place : ℕ → OverPlace
fresh_place n = record { number = n; finished = false; stopped = None }

-- the count fresh seats from the number n on
abbrev pub fresh_from : ℕ → ℕ → List OverPlace
fresh_from n zero = []
fresh_from n (suc count) = fresh_place n ∷ fresh_from (n + 1) count

-- whether the seat is one of the counted ones, which have the lowest numbers
abbrev pub is_counted : ℕ → OverPlace → Bool
is_counted counted p = nat_lt p.number counted

abbrev pub is_finished : ℕ → OverPlace → Bool
is_finished counted p = p.finished && is_counted counted p

-- whether a stop that found this word found no stop
abbrev pub found_no_stop : Option ℕ → Bool
found_no_stop None = false
found_no_stop (Some word) = stopped_part word == 0

-- whether the seat stopped the run before all others
abbrev pub is_first_stop : OverPlace → Bool
is_first_stop p = found_no_stop p.stopped

abbrev pub seats_in : OverView → ℕ
seats_in v = length v.places

abbrev pub numbered : ℕ → OverView → ℕ
numbered n v = count_by (λ p. p.number == n) v.places

abbrev pub counted_in : ℕ → OverView → ℕ
counted_in counted v = count_by (is_counted counted) v.places

abbrev pub finished_in : ℕ → OverView → ℕ
finished_in counted v = count_by (is_finished counted) v.places

abbrev pub stops_in : OverView → ℕ
stops_in v = count_by (λ p. is_some p.stopped) v.places

abbrev pub first_stops_in : OverView → ℕ
first_stops_in v = count_by is_first_stop v.places

-- both numbers of the earlier word are at most those of the later
abbrev pub NoMore : ℕ → ℕ → Type 0
NoMore later earlier = (finished_part earlier ≤ finished_part later) × (stopped_part earlier ≤ stopped_part later)

-- what holds of a view on its own, where the word is this
pub record IsOverView (size : OverSize) (word : ℕ) (v : OverView) : Type 0 where
  pub size_known : 0 < length v.places → v.size ≡ size
  pub found : All (NoMore word) v.found

-- The rule: each number is in one view, the low half of the word is the number of counted seats that have finished, the rest is the number of stops, one
-- of which, where there are any, found none before it, and neither number ever falls
pub record IsOver (size : OverSize) (s : State (Unit {0}) OverView) : Type 0 where
  pub one_word : length s.words ≡ 1
  pub few : (size.counted ≤ size.seats) × (size.seats ≤ 1024)
  pub numbers : (n : ℕ) → sum_by (numbered n) s.views ≡ once_below size.seats n
  pub seats : sum_by seats_in s.views ≡ size.seats
  pub counted : sum_by (counted_in size.counted) s.views ≡ size.counted
  pub finished : finished_part (slice_index s.words 0) ≡ sum_by (finished_in size.counted) s.views
  pub stopped : stopped_part (slice_index s.words 0) ≡ sum_by stops_in s.views
  pub first : sum_by first_stops_in s.views ≡ min 1 (stopped_part (slice_index s.words 0))
  pub known : All (IsOverView size (slice_index s.words 0)) s.views

-- What a word found tells a seat that knows v. It is at least what the seats of v have said and at most what all could say, and where v has every seat of the
-- word it is exactly what they have said
pub record TellsOver (v : OverView) (word : ℕ) : Type 0 where
  pub finished_at_least : finished_in v.size.counted v ≤ finished_part word
  pub finished_at_most : finished_part word ≤ v.size.counted
  pub stopped_at_least : stops_in v ≤ stopped_part word
  pub stopped_at_most : stopped_part word ≤ v.size.seats
  pub finished_exactly : length v.places ≡ v.size.seats → finished_part word ≡ finished_in v.size.counted v
  pub stopped_exactly : length v.places ≡ v.size.seats → stopped_part word ≡ stops_in v
  pub one_first_stop : length v.places ≡ v.size.seats → first_stops_in v ≡ min 1 (stopped_part word)
  pub rises : All (NoMore word) v.found

-- the seat's own place is the first one of its view
abbrev pub finish : List OverPlace → List OverPlace
finish [] = []
finish (p ∷ ps) = (record p { finished = true }) ∷ ps

-- the own place has stopped, and its stop found this word
abbrev pub stop_at : ℕ → List OverPlace → List OverPlace
stop_at word [] = []
stop_at word (p ∷ ps) = (record p { stopped = Some word }) ∷ ps

-- the first place is one of the counted seats, and has not finished
abbrev pub HasToFinish : ℕ → List OverPlace → Type 0
HasToFinish counted [] = ⊥
HasToFinish counted (p ∷ ps) = (p.number < counted) × (p.finished ≡ false)

abbrev pub HasNotStopped : List OverPlace → Type 0
HasNotStopped [] = ⊥
HasNotStopped (p ∷ ps) = p.stopped ≡ None

-- the views after a step that found this word
abbrev pub looked : OverView → ℕ → OverView
looked v word = record v { found = v.found ++ word ∷ [] }

abbrev pub finished_view : OverView → ℕ → OverView
finished_view v word = record v { places = finish v.places; found = v.found ++ word ∷ [] }

abbrev pub stopped_view : OverView → ℕ → OverView
stopped_view v word = record v { places = stop_at word v.places; found = v.found ++ word ∷ [] }

-- the view of a seat that took in another's
abbrev pub joined : OverView → OverView → OverView
joined v w = record v { places = v.places ++ w.places; found = v.found ++ w.found }

abbrev pub spent : OverView
spent = over_view (over_size 0 0) [] []

-- the first place is cut off
abbrev pub own_place : OverView → OverView
own_place v = over_view v.size (take 1 v.places) []

abbrev pub other_places : OverView → OverView
other_places v = over_view v.size (drop 1 v.places) v.found

-- what a step tells: the word found, and what it means
abbrev pub Looks : Me (Unit {0}) OverView → ℕ → Me (Unit {0}) OverView → Type 0
Looks me word after = (after ≡ (looked me.0 word, me.1)) × TellsOver me.0 word

abbrev pub Finishes : Me (Unit {0}) OverView → ℕ → Me (Unit {0}) OverView → Type 0
Finishes me word after = (after ≡ (finished_view me.0 word, me.1)) × TellsOver me.0 word

abbrev pub Stops : Me (Unit {0}) OverView → ℕ → Me (Unit {0}) OverView → Type 0
Stops me word after = (after ≡ (stopped_view me.0 word, me.1)) × TellsOver me.0 word

-- a seat as a contract sees it: its word, and what it knows
pub record OverKnown : Type 0 where
  pub word : TableId
  pub known : OverView

abbrev pub over_known : TableId → OverView → OverKnown
over_known word known = record { word = word; known = known }

abbrev pub fresh_seat : TableId → OverSize → ℕ → OverKnown
fresh_seat word size n = over_known word (over_view size (fresh_place n ∷ []) [])

-- the fresh seats of a word, from the number n on
abbrev pub fresh_seats : TableId → OverSize → ℕ → ℕ → List OverKnown
fresh_seats word size n zero = []
fresh_seats word size n (suc count) = fresh_seat word size n ∷ fresh_seats word size (n + 1) count

-- What holds of every word OVER, whatever its threads do and in whatever order.
use Rattle.std.specs.Prelude.{◌≡◌, ℕ, ◌+◌, ◌*◌, ◌%◌, ◌^◌, ◌<◌, ◌≤◌, [], ◌∷◌, length, sum_by, slice_index}
use Rattle.atomic_table.specs.Table.{State, Me, Allows, Splits, Joins, opening}
use Rattle.port_words.specs.declared.over.view.OverSize.{OverSize}
use Rattle.port_words.specs.declared.over.view.OverView.{OverView}
use Rattle.port_words.specs.over.Over.{IsOver, finished_in, stops_in, numbered, over_view, fresh_from, other_places, own_place, joined, spent, HasToFinish, HasNotStopped, Looks, Finishes, Stops}

-- the word is the number of counted seats that have finished, plus 2^32 times the number of stops
abbrev pub OverCounts : Type 0
OverCounts = (size : OverSize) (s : State (Unit {0}) OverView) → IsOver size s → slice_index s.words 0 ≡ sum_by (finished_in size.counted) s.views + 2 ^ 32 * sum_by stops_in s.views

-- no two seats have one number
abbrev pub NumbersDiffer : Type 0
NumbersDiffer = (size : OverSize) (s : State (Unit {0}) OverView) → IsOver size s → (n : ℕ) → sum_by (numbered n) s.views ≤ 1

-- a new word meets the rule
abbrev pub NewOverKept : Type 0
NewOverKept = (size : OverSize) → size.counted ≤ size.seats → size.seats ≤ 1024 → IsOver size (opening {S = Unit {0}} (0 ∷ []) [] (over_view size (fresh_from 0 size.seats) []))

-- a seat is split off, and one is joined into another
abbrev pub OverSplitKept : Type 0
OverSplitKept = (size : OverSize) (id : ℕ) (v : OverView) → 0 < length v.places → Splits (IsOver size) id v (other_places v) (own_place v)

abbrev pub OverJoinKept : Type 0
OverJoinKept = (size : OverSize) (id other : ℕ) (v w : OverView) → 0 < length v.places → Joins (IsOver size) id v other w (joined v w) spent

-- a seat looks, says that it has finished, and stops the run
abbrev pub OverLookKept : Type 0
OverLookKept = (size : OverSize) (slots id : ℕ) (me : Me (Unit {0}) OverView) → 0 < length me.0.places → Allows (IsOver size) slots id me 0 (λ n. n) (Looks me)

abbrev pub FinishKept : Type 0
FinishKept = (size : OverSize) (slots id : ℕ) (me : Me (Unit {0}) OverView) → HasToFinish me.0.size.counted me.0.places → Allows (IsOver size) slots id me 0 (λ n. (n + 1) % 2 ^ 64) (Finishes me)

abbrev pub StopKept : Type 0
StopKept = (size : OverSize) (slots id : ℕ) (me : Me (Unit {0}) OverView) → HasNotStopped me.0.places → Allows (IsOver size) slots id me 0 (λ n. (n + 2 ^ 32) % 2 ^ 64) (Stops me)

-- The marks of a history: changes of the port's state that its STAT word shows.
use Rattle.std.specs.Prelude.{ℕ, List, [], ◌∷◌, Bool, true, false, Option, Some, None}
use Rattle.driver_model.specs.port_signal.declared.mark.MarkKind.{MarkKind}
use Rattle.driver_model.specs.port_signal.declared.mark.MarkKind.TheVariants.{Busy, Free, Closed}
use Rattle.driver_model.specs.port_model.declared.effect.Effect.{Effect}
use Rattle.driver_model.specs.port_model.declared.effect.Effect.TheVariants.{Busy as SetBusy}

-- whether the port is busy after these marks, newest first: the last of the marks busy and free is busy
abbrev pub is_busy : List MarkKind → Bool
is_busy [] = false
is_busy (Busy ∷ older) = true
is_busy (Free ∷ older) = false
is_busy (Closed ∷ older) = is_busy older

-- whether the port is busy after these effects, if it was as is said before them
abbrev pub busy_after : Bool → List Effect → Bool
busy_after busy [] = busy
busy_after busy (SetBusy now ∷ effects) = busy_after now effects
busy_after busy (effect ∷ effects) = busy_after busy effects

-- the mark of a change of the busy state
abbrev pub busy_marks : Bool → Bool → List MarkKind
busy_marks true false = Free ∷ []
busy_marks false true = Busy ∷ []
busy_marks before after = []

-- the closed mark, where a row closes the port
abbrev pub closed_marks : Option (List ℕ) → List MarkKind
closed_marks None = []
closed_marks (Some reason) = Closed ∷ []

-- this mark stands first among those that are due
abbrev pub is_due : MarkKind → List MarkKind → Bool
is_due Busy (Busy ∷ due) = true
is_due Free (Free ∷ due) = true
is_due Closed (Closed ∷ due) = true
is_due kind due = false

-- no mark is due
abbrev pub none_due : List MarkKind → Bool
none_due [] = true
none_due due = false

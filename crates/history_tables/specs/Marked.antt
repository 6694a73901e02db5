-- The marks of a history, as a table keeps them.
use Rattle.std.specs.Prelude.{◌≡◌, List, [], ◌∷◌, ◌++◌, Bool, true, false, Option, Some, None}
use Rattle.port_signal.specs.declared.mark.MarkKind.{MarkKind}
use Rattle.port_signal.specs.declared.mark.MarkKind.TheVariants.{Busy, Free, Closed}
use Rattle.port_history.specs.Marks.{is_busy}
use Rattle.history_tables.specs.declared.marks.PortMarks.{PortMarks}

-- the mark of a change of the busy state
abbrev pub change_marks : Option Bool → List MarkKind
change_marks (Some true) = Busy ∷ []
change_marks (Some false) = Free ∷ []
change_marks None = []

-- the closed mark, where the port closes
abbrev pub closed_mark : Bool → List MarkKind
closed_mark true = Closed ∷ []
closed_mark false = []

-- the table tells whether the port is busy by these marks, and which marks are due
pub record Marked (table : PortMarks) (marks due : List MarkKind) : Type 0 where
  pub busy_is : table.busy ≡ is_busy marks
  pub due_are : change_marks table.change ++ closed_mark table.closes ≡ due

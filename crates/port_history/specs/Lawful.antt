-- Whether a history keeps the laws, and where it doesn't, the first row that breaks one and the least law that it breaks.
use Rattle.std.specs.Prelude.{◌≡◌, ℕ, ◌+◌, List, [], ◌∷◌, length, Bool, true, false, Option, Some, None}
use Rattle.driver_model.specs.port_model.declared.row.Row.{Row}
use Rattle.port_history.specs.Opening.{Opening}
use Rattle.port_history.specs.Marks.{none_due}
use Rattle.port_history.specs.State.{State, state}
use Rattle.port_history.specs.Laws.{keeps_order, keeps_lifetime, keeps_busy, keeps_effects, keeps_marks, keeps_listed, keeps_resumed, keeps_ready, keeps_jobs, keeps_end}

-- a row after a state keeps the laws
pub record KeepsLaws (port : Opening) (s : State) (row : Row) : Type 0 where
  pub order : keeps_order s row ≡ true
  pub lifetime : keeps_lifetime s row ≡ true
  pub busy : keeps_busy s row ≡ true
  pub effects : keeps_effects port s row ≡ true
  pub marks : keeps_marks s row ≡ true
  pub listed : keeps_listed s row ≡ true
  pub resumed : keeps_resumed s row ≡ true
  pub ready : keeps_ready s row ≡ true
  pub jobs : keeps_jobs s row ≡ true

-- each row keeps them after those before it
abbrev pub Lawful : Opening → List Row → Type 0
Lawful port [] = Unit {0}
Lawful port (row ∷ older) = KeepsLaws port (state port older) row × Lawful port older

-- nothing is wanting at the end: no mark is due, and the last law holds
pub record IsFinished (port : Opening) (history : List Row) : Type 0 where
  pub marks : none_due (state port history).due ≡ true
  pub end : keeps_end (state port history) ≡ true

-- the first of these laws that isn't kept
abbrev pub least : List Bool → ℕ → Option ℕ
least [] law = None
least (true ∷ kept) law = least kept (law + 1)
least (false ∷ kept) law = Some law

-- which laws the row keeps, from the first to the ninth
abbrev pub kept_laws : Opening → State → Row → List Bool
kept_laws port s row =
    keeps_order s row ∷ keeps_lifetime s row ∷ keeps_busy s row ∷ keeps_effects port s row ∷ keeps_marks s row
    ∷ keeps_listed s row ∷ keeps_resumed s row ∷ keeps_ready s row ∷ keeps_jobs s row ∷ []

-- the least law that the row breaks
abbrev pub law_broken : Opening → State → Row → Option ℕ
law_broken port s row = least (kept_laws port s row) 1

-- a row by its place from 0, and the least law that it breaks
pub record Broken : Type 0 where
  pub row : ℕ
  pub law : ℕ

abbrev pub broken_at : ℕ → Option ℕ → Option Broken
broken_at row None = None
broken_at row (Some law) = Some (record { row = row; law = law })

abbrev pub first_broken : Option Broken → Option Broken → Option Broken
first_broken None later = later
first_broken (Some broken) later = Some broken

-- where the rows first break a law
abbrev pub broken : Opening → List Row → Option Broken
broken port [] = None
broken port (row ∷ older) = first_broken (broken port older) (broken_at (length older) (law_broken port (state port older) row))

-- the least law that an end breaks, where no mark is due and the last law is kept as is said
abbrev pub end_law : Bool → Bool → Option ℕ
end_law true true = None
end_law true false = Some 10
end_law false ends = Some 5

-- the least law that the end breaks
abbrev pub end_broken : State → Option ℕ
end_broken s = end_law (none_due s.due) (keeps_end s)

-- where a whole history first breaks a law: at a row, or at its end, whose place is the number of rows
abbrev pub verdict : Opening → List Row → Option Broken
verdict port history = first_broken (broken port history) (broken_at (length history) (end_broken (state port history)))

-- a history of which nothing is told keeps the laws and is finished
abbrev pub VerdictIsWhole : Type 0
VerdictIsWhole = (port : Opening) (history : List Row) → verdict port history ≡ None → Lawful port history × IsFinished port history

-- of a history that keeps the laws and is finished nothing is told
abbrev pub VerdictIsRight : Type 0
VerdictIsRight = (port : Opening) (history : List Row) → Lawful port history → IsFinished port history → verdict port history ≡ None

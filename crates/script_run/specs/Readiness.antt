-- How often the ports of a run were told that an event is ready, beside what the waits of its poll set answered.
use Rattle.std.specs.Prelude.{◌≡◌, ◌≤◌, ◌==◌, ◌&&◌, ℕ, Bool, false, List, ◌++◌, All, Option, Some}
use Rattle.std.specs.List.{count_by}
use Rattle.driver_model.specs.Same.{same_dir}
use Rattle.port_model.specs.declared.event.Dir.{Dir}
use Rattle.port_model.specs.declared.row.Row.{Row}
use Rattle.port_model.specs.declared.row.Row.TheVariants.{Handled, Late}
use Rattle.port_model.specs.declared.signal.Signal.{Signal}
use Rattle.port_model.specs.declared.signal.Signal.TheVariants.{Ready}
use Rattle.script_run.specs.declared.running.PortLeft.{PortLeft}
use Rattle.script_run.specs.declared.running.ScriptRan.{ScriptRan}

-- the signal says that this event is ready in this direction
abbrev pub says_ready : ℕ → Dir → Signal → Bool
says_ready event dir (Ready other way) = other == event && same_dir way dir
says_ready event dir signal = false

-- it is the row of a task that says so, handled or late
abbrev pub is_ready_row : ℕ → Dir → Row → Bool
is_ready_row event dir (Handled from seq task outside effects) = says_ready event dir task.signal
is_ready_row event dir (Late from seq task) = says_ready event dir task.signal
is_ready_row event dir row = false

-- of each event and each direction there are no more such rows than the event stands among these answers, which tell no direction
abbrev pub AreAnswered : List ℕ → List Row → Type 0
AreAnswered answers rows = (event : ℕ) (dir : Dir) → count_by (is_ready_row event dir) rows ≤ count_by (λ e. e == event) answers

-- in a run the waits of its poll set answered these events, behind all that they had answered before it, and the rows of each port keep to them
pub record ReadyRowsAreAnswered (before : List ℕ) (after : Option (List ℕ)) (ran : ScriptRan) : Type 0 where
  pub answers : List ℕ
  pub answered : after ≡ Some (before ++ answers)
  pub ports : All (λ (p : PortLeft). AreAnswered answers p.journal.rows) ran.ports.items

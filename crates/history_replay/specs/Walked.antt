-- What is kept of a port on the walk through its rows, and what is told of the next row.
use Rattle.std.specs.Prelude.{◌≡◌, ℕ, List, [], ◌∷◌, reverse, length, Bool, true, false, Option, None, Some}
use Rattle.driver_model.specs.Calls.{Kind}
use Rattle.driver_model.specs.Drivers.{job_count}
use Rattle.port_model.specs.declared.row.Row.{Row}
use Rattle.port_model.specs.declared.row.Row.TheVariants.{Handled}
use Rattle.port_history.specs.Laws.{keeps_order, keeps_lifetime, keeps_busy, keeps_effects, keeps_marks, keeps_listed, keeps_resumed, keeps_ready, keeps_jobs}
use Rattle.port_history.specs.Lawful.{broken, law_broken}
use Rattle.port_history.specs.Opening.{Opening, taken_of}
use Rattle.port_history.specs.State.{State, state, after}
use Rattle.history_state.specs.declared.rows.RowEnd.{RowEnd}
use Rattle.history_state.specs.Kept.{IsStateOf}
use Rattle.history_driver.specs.declared.driver.HistoryDriver.{HistoryDriver}
use Rattle.history_driver.specs.Handled.{IsDriverOf, GoesOn}
use Rattle.journal_text.specs.declared.book.PortReport.{PortReport}
use Rattle.history_replay.specs.declared.port.BrokenLaw.{BrokenLaw}
use Rattle.history_replay.specs.declared.walk.Walk.{Walk}
use Rattle.history_replay.specs.declared.walk.Judgement.{Judgement}
use Rattle.history_replay.specs.declared.walk.Judgement.TheVariants.{Keeps, Breaks}
use Rattle.history_replay.specs.Verdicts.{broken_of}

-- which laws the row keeps of the first three, and of the fifth to the ninth
abbrev pub laws_before : State → Row → List Bool
laws_before s row = keeps_order s row ∷ keeps_lifetime s row ∷ keeps_busy s row ∷ []

abbrev pub laws_behind : State → Row → List Bool
laws_behind s row = keeps_marks s row ∷ keeps_listed s row ∷ keeps_resumed s row ∷ keeps_ready s row ∷ keeps_jobs s row ∷ []

-- the port was opened as the report tells, with a driver of this kind
pub record IsOpenedAs (port : Opening) (processes : ℕ) (kind : Kind) (report : PortReport) : Type 0 where
  pub processes_are : port.processes ≡ processes
  pub kind_is : port.kind ≡ kind
  pub config_is : port.config ≡ report.config
  pub owner_is : port.owner ≡ report.owner
  pub read_is : port.read ≡ report.events.0
  pub write_is : port.write ≡ report.events.1

-- what is kept of a port is its state and what its driver holds, which has submitted just the jobs of the state
pub record StandsAt (walk : Walk) (port : Opening) (s : State) : Type 0 where
  pub state_is : IsStateOf walk.state port s
  pub driver_is : IsDriverOf walk.driver port s.calls
  pub jobs_are : length s.jobs ≡ job_count port.kind port.config s.calls

-- a row that keeps the law of effects left its port so, and the driver went on: only a handled task calls it
abbrev pub WentOn : Opening → State → Row → RowEnd → HistoryDriver → Type 0
WentOn port s (Handled from seq task outside effects) closing driver = GoesOn port s (taken_of from seq task outside effects) closing driver
WentOn port s row closing driver = IsDriverOf driver port s.calls

-- whether a row keeps the law of effects
abbrev pub TellsEffects : Opening → State → Row → Option RowEnd → HistoryDriver → Type 0
TellsEffects port s row None driver = keeps_effects port s row ≡ false
TellsEffects port s row (Some closing) driver = (keeps_effects port s row ≡ true) × WentOn port s row closing driver

-- the row keeps the laws, and left its port so, or this is the least law that it breaks
abbrev pub IsJudgement : Opening → State → Row → Judgement → HistoryDriver → Type 0
IsJudgement port s row (Keeps closing) driver = (law_broken port s row ≡ None) × WentOn port s row closing driver
IsJudgement port s row (Breaks law) driver = law_broken port s row ≡ Some law

-- the row was taken in, or this is the least law that it breaks
abbrev pub Takes : Opening → State → Row → Option ℕ → Walk → Type 0
Takes port s row None walk = (law_broken port s row ≡ None) × StandsAt walk port (after port s row)
Takes port s row (Some law) walk = law_broken port s row ≡ Some law

-- all rows were taken in, oldest first, or this is where they first break a law
abbrev pub Walks : Opening → List Row → Option BrokenLaw → Walk → Type 0
Walks port rows None walk = (broken port (reverse rows) ≡ None) × StandsAt walk port (state port (reverse rows))
Walks port rows (Some law) walk = broken port (reverse rows) ≡ broken_of (Some law)

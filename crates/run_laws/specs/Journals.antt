-- What a replay finds of the journal of a run.
use Rattle.std.specs.Prelude.{◌≡◌, ℕ, List, length, All, true, Option}
use Rattle.driver_model.specs.Calls.{Kind, Own}
use Rattle.driver_model.specs.Programs.{ToldProgram}
use Rattle.history_replay.specs.Laws.{AreLegal}
use Rattle.journal_text.specs.Books.{is_book}
use Rattle.port_driver.specs.declared.life.Life.{Life}
use Rattle.run_output.specs.Reported.{report_of}
use Rattle.run_output.specs.Writes.{book_of}
use Rattle.run_output.specs.run_opening.Script.{IsRunnable}
use Rattle.run_output.specs.run_opening.declared.run_script.RunScript.{RunScript}
use Rattle.run_output.specs.script_input.Input.{IsRunOf}
use Rattle.run_output.specs.script_input.Names.{AreNamesOf}
use Rattle.run_output.specs.script_input.declared.input.RunNames.{RunNames}
use Rattle.run_output.specs.script_run.Ran.{HasRun}
use Rattle.run_output.specs.script_run.declared.running.ScriptRan.{ScriptRan}
use Rattle.run_output.specs.script_run.run_opening.driver_hosts.declared.hosted.Hosted.{Hosted}
use Rattle.run_report.specs.declared.report.Report.{Report}
use Rattle.script_plan.specs.Plan.{Plan}
use Rattle.run_laws.specs.Ranges.{PartsFit, has_own_options}

-- The history of each port keeps the laws that a replay tries and is finished, so that a replay of them tells that all are legal. And the names and the ports are those of a book, whose text is read again as it is, where
-- each part fits its type
pub record IsReplayed (report : Report) : Type 0 where
  pub legal : AreLegal 0 (length report.processes) report.ports
  pub book : PartsFit (book_of report).names (book_of report).ports → is_book (book_of report) ≡ true

-- a script that can be run, made of this plan, whose ports have the options of their drivers alone, and its names
pub record IsNamedScript (plan : Plan) (script : RunScript) (names : RunNames) : Type 0 where
  pub contents : List (List ℕ)
  pub schedulers : ℕ
  pub workers : ℕ
  pub run_of : IsRunOf plan contents schedulers workers script
  pub names_of : AreNamesOf plan names
  pub runnable : IsRunnable script
  pub options : All (λ p. has_own_options p ≡ true) plan.ports

module _ {D : Type 0} where
  -- so it is in every run
  abbrev pub JournalsAreReplayedIn : (D → Kind) → (D → Life) → (D → ℕ) → (D → Own) → (D → Option ToldProgram) → Type 0
  JournalsAreReplayedIn kind stage faults own program = (plan : Plan) (script : RunScript) (names : RunNames) (old new : List (Hosted D)) (before : List ℕ) (after : Option (List ℕ)) (ran : ScriptRan)
      → IsNamedScript plan script names → HasRun kind stage faults own program script old new before after ran → IsReplayed (report_of names ran)

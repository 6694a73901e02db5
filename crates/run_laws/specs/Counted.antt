-- How many commands a process put, by its receipts and by the report.
use Rattle.std.specs.Prelude.{◌≡◌, ◌<◌, ◌+◌, ◌&&◌, ℕ, List, [], ◌∷◌, length, Option, if◌then◌else◌, slice_index_or}
use Rattle.driver_model.specs.Calls.{Kind, Own}
use Rattle.driver_model.specs.Programs.{ToldProgram}
use Rattle.port_driver.specs.declared.life.Life.{Life}
use Rattle.port_model.specs.Signals.{is_command}
use Rattle.process_receipts.specs.Asks.{Asked}
use Rattle.process_receipts.specs.Receipts.{is_put}
use Rattle.process_receipts.specs.declared.receipt.Receipt.{Receipt}
use Rattle.run_output.specs.Reported.{report_of}
use Rattle.run_output.specs.run_opening.declared.run_script.RunScript.{RunScript}
use Rattle.run_output.specs.run_opening.run_seats.declared.plans.ProcessSteps.{ProcessSteps}
use Rattle.run_output.specs.script_input.declared.input.RunNames.{RunNames}
use Rattle.run_output.specs.script_run.Ran.{HasRun, calls_of}
use Rattle.run_output.specs.script_run.declared.running.ProcessLeft.{ProcessLeft}
use Rattle.run_output.specs.script_run.declared.running.ScriptRan.{ScriptRan}
use Rattle.run_output.specs.script_run.run_opening.driver_hosts.declared.hosted.Hosted.{Hosted}
use Rattle.run_report.specs.Processes.{commands_of}
use Rattle.run_report.specs.declared.report.Report.{Report}
use Rattle.script_plan.specs.Plan.{Plan}
use Rattle.run_laws.specs.Journals.{IsNamedScript}

-- how many of these calls put a command: those of a command whose receipt shows it accepted, or accepted with the process suspended
abbrev pub commands_put : List Asked → List Receipt → ℕ
commands_put [] receipts = 0
commands_put (ask ∷ asks) [] = 0
commands_put (ask ∷ asks) (receipt ∷ receipts) = commands_put asks receipts + (if is_command ask.signal && is_put receipt.outcome then 1 else 0)

-- the commands that the report counts for each process, in the rows of all ports, are as many as those that its receipts show put
abbrev pub CommandsAreCounted : RunScript → ScriptRan → Report → Type 0
CommandsAreCounted script ran report = (s : ℕ) (p : ProcessSteps) (l : ProcessLeft) → s < length script.process_steps.items
    → commands_of s report.ports
    ≡ commands_put (calls_of (length script.ports.items) (slice_index_or script.process_steps.items s p) (slice_index_or ran.processes.items s l)).asks
    (calls_of (length script.ports.items) (slice_index_or script.process_steps.items s p) (slice_index_or ran.processes.items s l)).receipts

module _ {D : Type 0} where
  -- so it is in every run
  abbrev pub CommandsAreCountedIn : (D → Kind) → (D → Life) → (D → ℕ) → (D → Own) → (D → Option ToldProgram) → Type 0
  CommandsAreCountedIn kind stage faults own program = (plan : Plan) (script : RunScript) (names : RunNames) (old new : List (Hosted D)) (before : List ℕ) (after : Option (List ℕ)) (ran : ScriptRan)
      → IsNamedScript plan script names → HasRun kind stage faults own program script old new before after ran → CommandsAreCounted script ran (report_of names ran)

-- The summary of a load is a function of its number, whatever the schedule.
use Rattle.std.specs.Prelude.{◌≡◌, ℕ, List, Option}
use Rattle.driver_model.specs.Calls.{Kind, Own}
use Rattle.driver_model.specs.Programs.{ToldProgram}
use Rattle.port_driver.specs.declared.life.Life.{Life}
use Rattle.run_output.specs.script_input.run_opening.driver_hosts.declared.hosted.Hosted.{Hosted}
use Rattle.run_output.specs.Reported.{report_of}
use Rattle.run_output.specs.script_run.declared.running.ScriptRan.{ScriptRan}
use Rattle.run_output.specs.script_run.Ran.{HasRun}
use Rattle.run_report.specs.Report.{summary_of}
use Rattle.run_output.specs.script_input.declared.input.RunNames.{RunNames}
use Rattle.run_output.specs.script_input.run_opening.declared.run_script.RunScript.{RunScript}
use Rattle.run_output.specs.script_input.Input.{IsRunOf}
use Rattle.run_output.specs.script_input.Names.{AreNamesOf}
use Rattle.script_load.specs.Load.{load_plan}
use Rattle.run_laws.specs.Summary.{load_summary}

module _ {D : Type 0} where
  -- the script is that of the load of a number, with its names, and its run was made, which left this
  pub record HasRunLoad (kind : D → Kind) (stage : D → Life) (faults : D → ℕ) (own : D → Own) (program : D → Option ToldProgram) (number : ℕ) (script : RunScript) (names : RunNames) (left : ScriptRan) : Type 0 where
    pub contents : List (List ℕ)
    pub schedulers : ℕ
    pub workers : ℕ
    pub run_of : IsRunOf (load_plan number) contents schedulers workers script
    pub names_of : AreNamesOf (load_plan number) names
    pub hosts : List (Hosted D)
    pub hosts_after : List (Hosted D)
    pub answered : List ℕ
    pub answered_after : Option (List ℕ)
    pub has_run : HasRun kind stage faults own program script hosts hosts_after answered answered_after left

  abbrev pub SummaryIsOfNumber : (D → Kind) → (D → Life) → (D → ℕ) → (D → Own) → (D → Option ToldProgram) → Type 0
  SummaryIsOfNumber kind stage faults own program = (number : ℕ) (script : RunScript) (names : RunNames) (left : ScriptRan) → HasRunLoad kind stage faults own program number script names left
      → summary_of number (report_of names left) ≡ load_summary number

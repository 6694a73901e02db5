-- What of a run is the same for every schedule, however many schedulers and workers it has.
use Rattle.std.specs.Prelude.{◌≡◌, ◌<◌, ℕ, length, slice_index_or}
use Rattle.run_laws.specs.Summary.{load_summary}
use Rattle.run_laws.specs.Echoed.{EchoesTo, EchoesAllTo, RefusesNoneOf}
use Rattle.run_laws.specs.Sending.{IsEchoPort}
use Rattle.run_laws.specs.Saved.{IsSaved, ServesProgram}
use Rattle.run_laws.specs.run_output.script_run.declared.running.PortLeft.{PortLeft}
use Rattle.run_laws.specs.run_output.script_run.declared.running.ProcessLeft.{ProcessLeft}
use Rattle.run_laws.specs.run_output.script_run.declared.running.ScriptRan.{ScriptRan}
use Rattle.run_report.specs.declared.report.Report.{Report}
use Rattle.run_report.specs.Report.{summary_of}
use Rattle.script_input.specs.run_opening.declared.run_script.RunScript.{RunScript}
use Rattle.script_input.specs.run_opening.run_seats.declared.plans.ProcessSteps.{ProcessSteps}
use Rattle.script_input.specs.Words.{Source, FromFile, FromLoad}
use Rattle.script_plan.specs.declared.decl.PortDecl.{PortDecl}

-- What is saved of this port for its owner is the data of its commands that were put, in the order of the script; where all were, it is all that its steps send; and all are, where it makes few calls and short
-- ones
pub record EchoesBack (script : RunScript) (left : ScriptRan) (number owner : ℕ) : Type 0 where
  pub echoed : (p : ProcessSteps) (port : PortLeft) (l : ProcessLeft) → EchoesTo script left number owner p port l
  pub all : (p : ProcessSteps) (l : ProcessLeft) → EchoesAllTo script left number owner p l
  pub none_refused : (p : ProcessSteps) (l : ProcessLeft) → RefusesNoneOf script left number owner p l

-- Each port of a driver that sends back, and to which its owner alone sends, commands and behind them closes, does so. What is saved of each port of a program, which no step hands to another process, are the
-- messages of the bytes that the port took
pub record AnswersAreFixed (script : RunScript) (left : ScriptRan) : Type 0 where
  pub echoes : (number : ℕ) (decl : PortDecl) → number < length script.ports.items
      → IsEchoPort number (slice_index_or script.ports.items number decl) script.process_steps.items
      → EchoesBack script left number (slice_index_or script.ports.items number decl).owner
  pub programs : (number : ℕ) (decl : PortDecl) (port : PortLeft) (l : ProcessLeft) → ServesProgram script number (slice_index_or script.ports.items number decl)
      → IsSaved number (slice_index_or script.ports.items number decl) (slice_index_or left.ports.items number port)
      (slice_index_or left.processes.items (slice_index_or script.ports.items number decl).owner l)

-- the summary of a load is a function of its number
abbrev pub IsSummaryOf : Source → Report → Type 0
IsSummaryOf (FromFile name) report = Unit {0}
IsSummaryOf (FromLoad number) report = summary_of number report ≡ load_summary number

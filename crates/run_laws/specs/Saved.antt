-- What a user finds in the saved file of a port that serves a program.
use Rattle.std.specs.Prelude.{◌≡◌, ◌<◌, ℕ, List, length, Bool, true, false, ◌==◌, All, Option, codes, slice_index_or}
use Rattle.driver_model.specs.Calls.{Kind, Own}
use Rattle.driver_model.specs.Programs.{ToldProgram}
use Rattle.port_config.specs.Config.{is_config}
use Rattle.port_driver.specs.declared.life.Life.{Life}
use Rattle.port_history.specs.Counts.{saved_of}
use Rattle.run_output.specs.script_run.run_opening.driver_hosts.declared.hosted.Hosted.{Hosted}
use Rattle.script_plan.specs.declared.decl.PortDecl.{PortDecl}
use Rattle.script_plan.specs.declared.step.Act.{Act}
use Rattle.script_plan.specs.declared.step.Act.TheVariants.{Connect, SendConnect}
use Rattle.run_output.specs.run_opening.run_seats.declared.plans.ProcessSteps.{ProcessSteps}
use Rattle.run_output.specs.run_opening.declared.run_script.RunScript.{RunScript}
use Rattle.run_output.specs.script_run.declared.running.PortLeft.{PortLeft}
use Rattle.run_output.specs.script_run.declared.running.ProcessLeft.{ProcessLeft}
use Rattle.run_output.specs.script_run.declared.running.ScriptRan.{ScriptRan}
use Rattle.run_output.specs.script_run.Ran.{HasRun, history_of}
use Rattle.unframed_output.specs.Output.{bytes_kept, has_ended, saved_output}

-- the act hands this port to a process
abbrev pub connects : ℕ → Act → Bool
connects port (Connect other to) = other == port
connects port (SendConnect other to) = other == port
connects port _ = false

-- no step of these processes hands the port to a process, so that its opener stays its owner
abbrev pub NeverConnect : ℕ → List ProcessSteps → Type 0
NeverConnect port process_steps = All (λ p. All (λ s. connects port s.act ≡ false) p.steps.items) process_steps

-- the port of this number serves a program, and one of the processes is its owner from its opening on
pub record ServesProgram (script : RunScript) (number : ℕ) (decl : PortDecl) : Type 0 where
  pub below : number < length script.ports.items
  pub driver : decl.driver ≡ codes "spawn"
  pub config : is_config decl.config ≡ true
  pub owner : decl.owner < length script.process_steps.items
  pub stays : NeverConnect number script.process_steps.items

-- what the owner has to save of the port is what is saved of the bytes that the port took, but for a chunk that failed it
abbrev pub IsSaved : ℕ → PortDecl → PortLeft → ProcessLeft → Type 0
IsSaved number decl port owner =
    saved_of number owner.mails.items ≡ saved_output decl.config.mode (bytes_kept decl.config.mode (history_of port)) (has_ended (history_of port))

module _ {D : Type 0} where
  -- so it is in every run
  abbrev pub OutputIsSavedIn : (D → Kind) → (D → Life) → (D → ℕ) → (D → Own) → (D → Option ToldProgram) → Type 0
  OutputIsSavedIn kind stage faults own program = (script : RunScript) (old new : List (Hosted D)) (before : List ℕ) (after : Option (List ℕ)) (ran : ScriptRan)
      → HasRun kind stage faults own program script old new before after ran → (number : ℕ) (d : PortDecl) (p : PortLeft) (l : ProcessLeft)
      → ServesProgram script number (slice_index_or script.ports.items number d)
      → IsSaved number (slice_index_or script.ports.items number d) (slice_index_or ran.ports.items number p) (slice_index_or ran.processes.items (slice_index_or script.ports.items number d).owner l)

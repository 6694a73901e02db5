-- What is run of a script and of the contents of its files.
use Rattle.std.specs.Prelude.{◌≡◌, ℕ, List, length}
use Rattle.script_plan.specs.Plan.{Plan}
use Rattle.run_opening.specs.declared.run_script.RunScript.{RunScript}
use Rattle.script_input.specs.declared.input.RunInput.{RunInput}
use Rattle.program_io.specs.Files.{FilesView}
use Rattle.script_input.specs.Contents.{HaveRead}
use Rattle.script_input.specs.Names.{AreNamesOf, AreWritesOf}
use Rattle.script_input.specs.StepsDealt.{AreStepsOfAll}

-- the ports of the plan, and for each of its processes what it does, run by so many schedulers and workers
pub record IsRunOf (plan : Plan) (contents : List (List ℕ)) (schedulers workers : ℕ) (script : RunScript) : Type 0 where
  pub ports : script.ports.items ≡ plan.ports
  pub process_steps : AreStepsOfAll (length plan.processes) plan.steps contents script.process_steps.items
  pub schedulers_are : script.schedulers ≡ schedulers
  pub workers_are : script.workers ≡ workers

-- the files of the plan's steps were read, and this is what is run of them, with the names and the writes of the plan
pub record IsInputOf (before after : FilesView) (plan : Plan) (schedulers workers : ℕ) (input : RunInput) : Type 0 where
  pub contents : List (List ℕ)
  pub read : HaveRead before after plan.steps contents
  pub run : IsRunOf plan contents schedulers workers input.script
  pub names : AreNamesOf plan input.names
  pub writes : AreWritesOf plan input.writes

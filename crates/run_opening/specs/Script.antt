-- What a run can be made of.
use Rattle.std.specs.Prelude.{◌<◌, ◌≤◌, All, length}
use Rattle.run_end.specs.process_job.Jobs.{AreWithin}
use Rattle.run_end.specs.run_lanes.declared.size.LaneSize.{LaneSize}
use Rattle.run_opening.specs.Opened.{AreDeclared}
use Rattle.run_opening.specs.declared.run_script.RunScript.{RunScript}

-- how many processes and workers it has, and for how many rows its ports get room
abbrev pub size_of : RunScript → LaneSize
size_of script = record { processes = length script.process_steps.items; workers = script.workers; rows = script.rows }

-- the ports, the processes, the workers and the schedulers are within their limits, each port's owner is one of the processes, its options lie in their ranges, and the steps name ports and processes that are there
pub record IsRunnable (script : RunScript) : Type 0 where
  pub declared : AreDeclared (size_of script) script.ports.items
  pub some_schedulers : 0 < script.schedulers
  pub few_schedulers : script.schedulers ≤ 16
  pub within : All (λ p. AreWithin (length script.process_steps.items) (length script.ports.items) p.steps.items) script.process_steps.items

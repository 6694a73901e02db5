-- What the jobs of a run are made of, and a run that is seated with it.
use Rattle.std.specs.Prelude.{◌≡◌, ℕ, List, All, length}
use Rattle.port_sched.specs.declared.body.PortBody.{Ghosts}
use Rattle.run_opening.specs.run_end.process_job.Jobs.{AreWithin}
use Rattle.run_opening.specs.declared.opening.JobLanes.{JobLanes}
use Rattle.run_opening.specs.Opened.{IsPartOf}
use Rattle.run_opening.specs.run_seats.declared.plans.ProcessPlan.{ProcessPlan}
use Rattle.run_opening.specs.run_seats.declared.seating.OtherLanes.{OtherLanes}
use Rattle.run_opening.specs.run_seats.declared.seating.SeatedRun.{SeatedRun}
use Rattle.run_opening.specs.run_seats.Plans.{ArePlansOf}
use Rattle.run_opening.specs.run_seats.Seated.{IsSeated}
use Rattle.run_opening.specs.Setting.{Setting, IsSetting}
use Rattle.seated_script.specs.declared.dealing.JobParts.{JobParts}

-- what is dealt to the jobs beside the processes
abbrev pub others_of : JobLanes → OtherLanes
others_of lanes = record { workers = lanes.workers; poller = lanes.poller; finish = lanes.finish }

-- these are the parts that this says, and the steps of its processes name ports and processes that are there
pub record ArePartsOf (s : Setting) (parts : JobParts) : Type 0 where
  pub lanes_are : IsPartOf s.lanes parts.lanes
  pub process_steps_are : parts.process_steps.items ≡ s.process_steps
  pub soft_are : parts.soft.items ≡ s.soft
  pub within : All (λ p. AreWithin s.size.processes (length s.ports) p.steps.items) s.process_steps

-- these are the parts of a run with so many ports
pub record AreParts (ports : ℕ) (parts : JobParts) : Type 0 where
  pub setting : Setting
  pub is : IsSetting setting
  pub many : length setting.ports ≡ ports
  pub of : ArePartsOf setting parts

-- the run is seated over these bodies, and each job is dealt its part
pub record IsRunOf {B S : Type 0} {g : Ghosts B} (bodies : List B) (parts : JobParts) (poll : S) (schedulers : ℕ) (run : SeatedRun B S g) : Type 0 where
  pub plans : List ProcessPlan
  pub plans_are : ArePlansOf parts.soft.items parts.lanes.processes.items parts.process_steps.items plans
  pub seated : IsSeated bodies plans (others_of parts.lanes) poll schedulers run

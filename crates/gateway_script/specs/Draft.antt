-- The script so far.
use Rattle.script_plan.specs.Plan.{Plan, IsPlan}
use Rattle.gateway_script.specs.declared.draft.Draft.{Draft}
use Rattle.gateway_script.specs.Steps.{IsSteps}

abbrev pub plan_of : Draft → Plan
plan_of d = record { processes = d.processes.items; ports = d.ports.items; saves = d.saves.items; journal = d.journal; steps = d.steps.list.items }

pub record IsDraft (d : Draft) : Type 0 where
  pub plan : IsPlan (plan_of d)
  pub steps : IsSteps d.steps

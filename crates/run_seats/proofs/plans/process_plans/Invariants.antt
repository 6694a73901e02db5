use Rattle.std.proofs.Common.{get_or}
use Rattle.run_lanes.specs.declared.parts.ProcessLanes.{ProcessLanes}
use Rattle.run_lanes.proofs.Places.{IsRest, ArePlaced}
use Rattle.run_seats.specs.declared.plans.ProcessSteps.{ProcessSteps}
use Rattle.run_seats.specs.Plans.{IsPlanOf}
use Rattle.run_seats.proofs.plans.process_plans.Given as goal

abbrev pub invariant-processes : goal.invariant-processes
invariant-processes l =
    IsRest l.number l.fn.processes.items l.processes.rest.items l.processes.rest.len
    × IsRest l.number l.fn.process_steps.items l.process_steps.rest.items l.process_steps.rest.len
    × ArePlaced (λ n plan. (x : ProcessLanes) (p : ProcessSteps) → IsPlanOf l.fn.soft n (get_or l.fn.processes.items n x) (get_or l.fn.process_steps.items n p) plan) l.number l.plans.items

use Rattle.std.proofs.Common.{get_or, subst, arith}
use Rattle.run_lanes.specs.declared.parts.ProcessLanes.{ProcessLanes}
use Rattle.run_lanes.proofs.Places.{rest_some, rest_more, rest_first, placed_more}
use Rattle.run_seats.specs.declared.plans.ProcessSteps.{ProcessSteps}
use Rattle.run_seats.specs.Plans.{IsPlanOf}
use Rattle.run_seats.proofs.plans.process_plans.Goals as goal

pub next_of-lanes-requires : goal.next_of-lanes-requires
next_of-lanes-requires c =
    let within = c.processes-test.true in
    let end = c.len-many.ensures in
    let size = c.args.processes.ok.0 in
    rest_some c.processes.number c.args.processes.items c.processes.processes.rest.items c.processes.processes.rest.len c.processes.invariant.0 (omega arith)

pub next_of-own_steps-requires : goal.next_of-own_steps-requires
next_of-own_steps-requires c =
    let within = c.processes-test.true in
    let end = c.len-many.ensures in
    let size = c.args.processes.ok.0 in
    let many = c.requires.many in
    rest_some c.processes.number c.args.process_steps.items c.processes.process_steps.rest.items c.processes.process_steps.rest.len c.processes.invariant.1 (omega arith)

pub plan_of-requires : goal.plan_of-requires
plan_of-requires c =
    let within = c.processes-test.true in
    let end = c.len-many.ensures in
    let size = c.args.processes.ok.0 in
    let few = c.requires.few in
    omega arith

pub processes-preserved : goal.processes-preserved
processes-preserved c =
    let inv = c.processes.invariant in
    let n = c.processes.number in
    let lanes = c.args.processes.items in
    let process_steps = c.args.process_steps.items in
    let soft = c.args.soft.now in
    let within = c.processes-test.true in
    let end = c.len-many.ensures in
    let size = c.args.processes.ok.0 in
    let many = c.requires.many in
    let lane = c.next_of-lanes in
    let own_steps = c.next_of-own_steps in
    let plan = c.in_ok-plan.plan in (
      rest_more n lanes c.processes.processes.rest.items lane.new.items.rest.items lane.result c.processes.processes.rest.len lane.new.items.rest.len (omega arith) inv.0 lane.ensures.items lane.ensures.len,
      rest_more n process_steps c.processes.process_steps.rest.items own_steps.new.items.rest.items own_steps.result c.processes.process_steps.rest.len own_steps.new.items.rest.len (omega arith) inv.1 own_steps.ensures.items own_steps.ensures.len,
      placed_more (λ n plan. (x : ProcessLanes) (p : ProcessSteps) → IsPlanOf soft n (get_or lanes n x) (get_or process_steps n p) plan) n c.processes.plans.items c.push.new.self.items plan c.in_ok-push.ensures.items inv.2
          (λ x p. subst (λ y. IsPlanOf soft n y (get_or process_steps n p) plan)
          (rest_first n lanes c.processes.processes.rest.items lane.new.items.rest.items lane.result c.processes.processes.rest.len (omega arith) inv.0 lane.ensures.items x)
          (subst (λ q. IsPlanOf soft n lane.result q plan)
          (rest_first n process_steps c.processes.process_steps.rest.items own_steps.new.items.rest.items own_steps.result c.processes.process_steps.rest.len (omega arith) inv.1 own_steps.ensures.items p) c.in_ok-plan.ensures)),
    )

pub returns : goal.returns
returns c =
    let end = c.len-many.ensures in
    let size = c.args.processes.ok.0 in
    let most = c.processes.auto.number-end in
    let past = c.processes-test.false in
    let placed = c.processes.invariant.2 in
    let many = placed.many in
    record { many = omega arith; each = λ n l p d within. placed.each n d (omega arith) l p }

use Rattle.std.proofs.Common.{get_or, sym, subst, arith}
use Rattle.std.specs.List.{All}
use Rattle.std.proofs.lemmas.List.Elements.{All-head, All-tail}
use Rattle.threaded_jobs.specs.process_job.Jobs.{CanRun}
use Rattle.run_lanes.proofs.Places.{rest_some, rest_more, rest_first, placed_more}
use Rattle.ticket_account.specs.Opening.{IsCounted, IsReadyJob}
use Rattle.run_seats.specs.declared.plans.ProcessPlan.{ProcessPlan}
use Rattle.run_seats.specs.Dealt.{IsDealtProcess}
use Rattle.run_seats.specs.Plans.{IsReadyPlan}
use Rattle.run_seats.proofs.Given.{given_more, all_more}
use Rattle.run_seats.proofs.dealing.process_jobs.Goals as goal

pub next_of-plan-requires : goal.next_of-plan-requires
next_of-plan-requires g c =
    let within = c.processes-test.true in
    let end = c.len-many.ensures in
    let size = c.args.plans.ok.0 in
    rest_some c.processes.counter c.args.plans.items c.processes.plans.rest.items c.processes.plans.rest.len c.processes.invariant.0 (omega arith)

pub next_of-ports-requires : goal.next_of-ports-requires
next_of-ports-requires g c =
    let within = c.processes-test.true in
    let end = c.len-many.ensures in
    let size = c.args.plans.ok.0 in
    let left = c.processes.invariant.4 in
    let enough = c.requires.enough.0 in
    omega arith

pub next_of-place-requires : goal.next_of-place-requires
next_of-place-requires g c =
    let within = c.processes-test.true in
    let end = c.len-many.ensures in
    let size = c.args.plans.ok.0 in
    let left = c.processes.invariant.1 in
    let enough = c.requires.enough.1 in
    omega arith

pub process_job-requires-clause-plan : goal.process_job-requires-clause-plan
process_job-requires-clause-plan g c =
    let inv = c.processes.invariant in
    let within = c.processes-test.true in
    let end = c.len-many.ensures in
    let size = c.args.plans.ok.0 in
    let n = c.processes.counter in
    let plans = c.args.plans.items in
    let plan = c.next_of-plan in
    let ports = c.next_of-ports in
    let ready = inv.5 in (
      ready.0,
      subst (IsReadyPlan ready.0) (sym (rest_first n plans c.processes.plans.rest.items plan.new.items.rest.items plan.result c.processes.plans.rest.len (omega arith) inv.0 plan.ensures.items plan.result))
          (ready.1 n plan.result (omega arith)),
      All-head (IsReadyJob ready.0) ports.result ports.new.items.rest.items (subst (All (IsReadyJob ready.0)) ports.ensures.items ready.2),
    )

pub process_job-requires-clause-over : goal.process_job-requires-clause-over
process_job-requires-clause-over g c =
    let word = c.processes.invariant.2 in
    let place = c.next_of-place in
    (word.0, All-head (IsCounted word.0) place.result place.new.items.rest.items (subst (All (IsCounted word.0)) place.ensures.items word.1))

pub add-requires : goal.add-requires
add-requires g c =
    let within = c.processes-test.true in
    let end = c.len-many.ensures in
    let size = c.args.plans.ok.0 in
    let len = c.processes.all.ok.0 in
    let many = c.processes.invariant.6.many in
    let room = c.processes.invariant.8 in
    omega arith

pub processes-preserved : goal.processes-preserved
processes-preserved g c =
    let inv = c.processes.invariant in
    let n = c.processes.counter in
    let plans = c.args.plans.items in
    let within = c.processes-test.true in
    let end = c.len-many.ensures in
    let size = c.args.plans.ok.0 in
    let plan = c.next_of-plan in
    let ports = c.next_of-ports in
    let place = c.next_of-place in
    let job = c.process_job.result in
    let all = c.processes.all.items in
    let all' = c.add.new.all.items in
    let added = c.add.ensures.items in
    let word = inv.2 in
    let ready = inv.5 in
    let over_left = inv.1 in
    let over_len = place.ensures.len in
    let seats_left = inv.4 in
    let seats_len = ports.ensures.len in
    let room = inv.8 in
    let grows = c.add.ensures.capacity in (
      rest_more n plans c.processes.plans.rest.items plan.new.items.rest.items plan.result c.processes.plans.rest.len plan.new.items.rest.len (omega arith) inv.0 plan.ensures.items plan.ensures.len,
      omega arith,
      (word.0, All-tail (IsCounted word.0) place.result place.new.items.rest.items (subst (All (IsCounted word.0)) place.ensures.items word.1)),
      given_more (λ p. p.seats.ports) all all' _ c.processes.seats.rest.items ports.new.items.rest.items ports.result job added c.process_job.ensures.seats ports.ensures.items inv.3,
      omega arith,
      (ready.0, ready.1, All-tail (IsReadyJob ready.0) ports.result ports.new.items.rest.items (subst (All (IsReadyJob ready.0)) ports.ensures.items ready.2)),
      placed_more (λ n job. (p : ProcessPlan) → IsDealtProcess (get_or plans n p) job) n all all' job added inv.6
          (λ p. subst (λ q. IsDealtProcess q job)
          (rest_first n plans c.processes.plans.rest.items plan.new.items.rest.items plan.result c.processes.plans.rest.len (omega arith) inv.0 plan.ensures.items p) c.process_job.ensures.dealt),
      all_more CanRun all all' job added inv.7 c.process_job.ensures.can,
      omega arith,
    )

pub returns-clause-dealt : goal.returns-clause-dealt
returns-clause-dealt g c =
    let end = c.len-many.ensures in
    let size = c.args.plans.ok.0 in
    let most = c.processes.auto.counter-end in
    let past = c.processes-test.false in
    let placed = c.processes.invariant.6 in
    let many = placed.many in
    record { many = omega arith; each = λ n p d within. placed.each n d (omega arith) p }

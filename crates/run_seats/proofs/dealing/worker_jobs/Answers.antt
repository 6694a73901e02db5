use Rattle.std.proofs.Common.{get_or, sym, subst, arith}
use Rattle.std.specs.List.{All}
use Rattle.std.proofs.lemmas.List.Elements.{All-head, All-tail}
use Rattle.run_jobs.specs.Working.{CanWork}
use Rattle.run_lanes.specs.declared.parts.WorkerLanes.{WorkerLanes}
use Rattle.run_lanes.proofs.Places.{rest_some, rest_more, rest_first, placed_more}
use Rattle.ticket_account.specs.Opening.{IsOther, IsReadyJob}
use Rattle.run_seats.specs.Dealt.{IsDealtWorker}
use Rattle.run_seats.specs.Plans.{IsReadyWorker}
use Rattle.run_seats.proofs.Given.{given_more, all_more}
use Rattle.run_seats.proofs.dealing.worker_jobs.Goals as goal

pub next_of-lanes-requires : goal.next_of-lanes-requires
next_of-lanes-requires g c =
    let within = c.workers-test.true in
    let end = c.len-many.ensures in
    let size = c.args.workers.ok.0 in
    rest_some c.workers.counter c.args.workers.items c.workers.workers.rest.items c.workers.workers.rest.len c.workers.invariant.0 (omega arith)

pub next_of-own-requires : goal.next_of-own-requires
next_of-own-requires g c =
    let within = c.workers-test.true in
    let end = c.len-many.ensures in
    let size = c.args.workers.ok.0 in
    let left = c.workers.invariant.2 in
    let enough = c.requires.enough.0 in
    omega arith

pub next_of-place-requires : goal.next_of-place-requires
next_of-place-requires g c =
    let within = c.workers-test.true in
    let end = c.len-many.ensures in
    let size = c.args.workers.ok.0 in
    let left = c.workers.invariant.4 in
    let enough = c.requires.enough.1 in
    omega arith

pub worker_job-requires-clause-lanes : goal.worker_job-requires-clause-lanes
worker_job-requires-clause-lanes g c =
    let inv = c.workers.invariant in
    let within = c.workers-test.true in
    let end = c.len-many.ensures in
    let size = c.args.workers.ok.0 in
    let n = c.workers.counter in
    let workers = c.args.workers.items in
    let lanes = c.next_of-lanes in
    let own = c.next_of-own in
    let ready = inv.5 in (
      ready.0,
      n,
      subst (IsReadyWorker ready.0 n)
          (sym (rest_first n workers c.workers.workers.rest.items lanes.new.items.rest.items lanes.result c.workers.workers.rest.len (omega arith) inv.0 lanes.ensures.items lanes.result))
          (ready.1.each n lanes.result (omega arith)),
      All-head (IsReadyJob ready.0) own.result own.new.items.rest.items (subst (All (IsReadyJob ready.0)) own.ensures.items ready.2),
    )

pub worker_job-requires-clause-over : goal.worker_job-requires-clause-over
worker_job-requires-clause-over g c =
    let word = c.workers.invariant.6 in
    let place = c.next_of-place in
    (word.0, All-head (IsOther word.0) place.result place.new.items.rest.items (subst (All (IsOther word.0)) place.ensures.items word.1))

pub add-requires : goal.add-requires
add-requires g c =
    let within = c.workers-test.true in
    let end = c.len-many.ensures in
    let size = c.args.workers.ok.0 in
    let len = c.workers.all.ok.0 in
    let many = c.workers.invariant.7.many in
    let room = c.workers.invariant.9 in
    omega arith

pub workers-preserved : goal.workers-preserved
workers-preserved g c =
    let inv = c.workers.invariant in
    let n = c.workers.counter in
    let workers = c.args.workers.items in
    let within = c.workers-test.true in
    let end = c.len-many.ensures in
    let size = c.args.workers.ok.0 in
    let lanes = c.next_of-lanes in
    let own = c.next_of-own in
    let place = c.next_of-place in
    let job = c.worker_job.result in
    let all = c.workers.all.items in
    let all' = c.add.new.all.items in
    let added = c.add.ensures.items in
    let ready = inv.5 in
    let word = inv.6 in
    let seats_left = inv.2 in
    let seats_len = own.ensures.len in
    let over_left = inv.4 in
    let over_len = place.ensures.len in
    let room = inv.9 in
    let grows = c.add.ensures.capacity in (
      rest_more n workers c.workers.workers.rest.items lanes.new.items.rest.items lanes.result c.workers.workers.rest.len lanes.new.items.rest.len (omega arith) inv.0 lanes.ensures.items lanes.ensures.len,
      given_more (λ w. w.seats) all all' _ c.workers.seats.rest.items own.new.items.rest.items own.result job added c.worker_job.ensures.seats own.ensures.items inv.1,
      omega arith,
      given_more (λ w. w.over) all all' _ c.workers.over.rest.items place.new.items.rest.items place.result job added c.worker_job.ensures.over place.ensures.items inv.3,
      omega arith,
      (ready.0, ready.1, All-tail (IsReadyJob ready.0) own.result own.new.items.rest.items (subst (All (IsReadyJob ready.0)) own.ensures.items ready.2)),
      (word.0, All-tail (IsOther word.0) place.result place.new.items.rest.items (subst (All (IsOther word.0)) place.ensures.items word.1)),
      placed_more (λ n job. (w : WorkerLanes) → IsDealtWorker (get_or workers n w) job) n all all' job added inv.7
          (λ w. subst (λ q. IsDealtWorker q job)
          (rest_first n workers c.workers.workers.rest.items lanes.new.items.rest.items lanes.result c.workers.workers.rest.len (omega arith) inv.0 lanes.ensures.items w) c.worker_job.ensures.dealt),
      all_more CanWork all all' job added inv.8 c.worker_job.ensures.can,
      omega arith,
    )

pub returns-clause-dealt : goal.returns-clause-dealt
returns-clause-dealt g c =
    let end = c.len-many.ensures in
    let size = c.args.workers.ok.0 in
    let most = c.workers.auto.counter-end in
    let past = c.workers-test.false in
    let placed = c.workers.invariant.7 in
    let many = placed.many in
    record { many = omega arith; each = λ n w d within. placed.each n d (omega arith) w }

use Rattle.std.proofs.Common.{map, arith}
use Rattle.run_lanes.specs.Dealt.{IsWorkerAt}
use Rattle.run_lanes.proofs.Places.{rest_more, rest_first, rest_row, placed_more}
use Rattle.run_lanes.proofs.dealing.deal_workers.Goals as goal

pub workers-preserved : goal.workers-preserved
workers-preserved c =
    let inv = c.workers.invariant in
    let n = c.workers.counter in
    let jobs = c.args.jobs.items in
    let lanes = c.args.lanes.items in
    let within = c.workers-test.true in
    let end = c.len-workers.ensures in
    let size = c.args.jobs.ok.0 in
    let many = c.requires in
    let job = c.next_of-jobs in
    let lane = c.next_of-lanes in (
      rest_more n jobs c.workers.jobs.rest.items job.new.items.rest.items job.result c.workers.jobs.rest.len job.new.items.rest.len (omega arith) inv.0 job.ensures.items job.ensures.len,
      rest_more n lanes c.workers.lanes.rest.items lane.new.items.rest.items lane.result c.workers.lanes.rest.len lane.new.items.rest.len (omega arith) inv.1 lane.ensures.items lane.ensures.len,
      placed_more (IsWorkerAt jobs (map (λ v. v.items) lanes)) n c.workers.all.items c.push.new.self.items
          (record { jobs = job.result; lanes = lane.result }) c.in_ok-push.ensures.items inv.2
          (record {
            jobs_are = rest_first n jobs c.workers.jobs.rest.items job.new.items.rest.items job.result c.workers.jobs.rest.len (omega arith) inv.0 job.ensures.items;
            lanes_are = rest_row (λ v. v.items) n lanes c.workers.lanes.rest.items lane.new.items.rest.items lane.result c.workers.lanes.rest.len (omega arith) inv.1 lane.ensures.items;
          }),
    )

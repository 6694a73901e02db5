use Rattle.std.proofs.Common.{IsSome, ap, length, subst, arith}
use Rattle.std.specs.List.{All}
use Rattle.std.proofs.lemmas.List.Elements.{All-tail}
use Rattle.threaded_jobs.specs.Parts.{worker_left}
use Rattle.threaded_jobs.proofs.Moves.{moved, moved_some}
use Rattle.threaded_jobs.proofs.parting.part_workers.Goals as goal

pub workers-preserved : goal.workers-preserved
workers-preserved g c =
    let inv = c.workers.invariant in
    let worker = c.in-Some.worker in
    let rest = c.workers.worker-iterator.rest.items in
    let rest' = c.next.new.self.rest.items in
    let steps = c.in-Some.ensures.steps in
    let one = steps.1 in
    let items = ap length steps.0 in
    let many = inv.3 in
    let seats_len = c.add.ensures.len in
    let seats_room = c.add.ensures.capacity in
    let ends_len = c.add-in-workers.ensures.len in
    let ends_room = c.add-in-workers.ensures.capacity in
    let for_seats = inv.4 in
    let for_ends = inv.5 in
    let grows = inv.6 in (
      moved (λ w. w.seats) c.workers.seats.items c.add.new.all.items _ rest rest' worker c.part_worker-own.result.0 c.add.ensures.items c.part_worker-own.ensures.seats steps.0 inv.0,
      moved_some worker_left c.workers.ends.items c.add-in-workers.new.all.items _ rest rest' worker c.part_worker-own.result.1 c.add-in-workers.ensures.items c.part_worker-own.ensures.left steps.0 inv.1,
      All-tail (λ w. IsSome w.end) worker rest' (subst (All (λ w. IsSome w.end)) steps.0 inv.2),
      omega arith,
      omega arith,
      omega arith,
      omega arith,
    )

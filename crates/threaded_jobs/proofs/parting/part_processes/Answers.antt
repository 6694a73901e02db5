use Rattle.std.proofs.Common.{IsSome, ap, length, subst, arith}
use Rattle.std.specs.List.{All}
use Rattle.std.proofs.lemmas.List.Elements.{All-tail}
use Rattle.threaded_jobs.proofs.Moves.{moved, moved_some}
use Rattle.threaded_jobs.proofs.parting.part_processes.Goals as goal

pub processes-preserved : goal.processes-preserved
processes-preserved g c =
    let inv = c.processes.invariant in
    let process = c.in-Some.process in
    let rest = c.processes.process-iterator.rest.items in
    let rest' = c.next.new.self.rest.items in
    let steps = c.in-Some.ensures.steps in
    let one = steps.1 in
    let items = ap length steps.0 in
    let many = inv.3 in
    let seats_len = c.add.ensures.len in
    let seats_room = c.add.ensures.capacity in
    let ends_len = c.add-in-processes.ensures.len in
    let ends_room = c.add-in-processes.ensures.capacity in
    let for_seats = inv.4 in
    let for_ends = inv.5 in
    let grows = inv.6 in (
      moved (λ p. p.seats.ports) c.processes.seats.items c.add.new.all.items _ rest rest' process c.part_process-own.result.0 c.add.ensures.items c.part_process-own.ensures.seats steps.0 inv.0,
      moved_some (λ p. p.end) c.processes.ends.items c.add-in-processes.new.all.items _ rest rest' process c.part_process-own.result.1 c.add-in-processes.ensures.items c.part_process-own.ensures.end steps.0 inv.1,
      All-tail (λ p. IsSome p.end) process rest' (subst (All (λ p. IsSome p.end)) steps.0 inv.2),
      omega arith,
      omega arith,
      omega arith,
      omega arith,
    )

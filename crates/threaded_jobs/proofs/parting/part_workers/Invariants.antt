use Rattle.std.proofs.Common.{◌≡◌, ◌+◌, ◌≤◌, ◌++◌, Some, IsSome, length, map, vec_len, vec_capacity}
use Rattle.std.specs.List.{All}
use Rattle.threaded_jobs.specs.Parts.{worker_left}
use Rattle.threaded_jobs.proofs.parting.part_workers.Given as goal

abbrev pub invariant-workers : goal.invariant-workers
invariant-workers g l =
    (l.seats.items ++ map (λ w. w.seats) l.worker-iterator.rest.items ≡ l.fn.seats.items ++ map (λ w. w.seats) l.fn.workers.items)
    × (map Some l.ends.items ++ map worker_left l.worker-iterator.rest.items ≡ map worker_left l.fn.workers.items)
    × All (λ w. IsSome w.end) l.worker-iterator.rest.items
    × (l.worker-iterator.rest.len ≡ length l.worker-iterator.rest.items)
    × (vec_len l.seats + l.worker-iterator.rest.len ≤ vec_capacity l.seats)
    × (vec_len l.ends + l.worker-iterator.rest.len ≤ vec_capacity l.ends)
    × (vec_capacity l.fn.seats ≤ vec_capacity l.seats)

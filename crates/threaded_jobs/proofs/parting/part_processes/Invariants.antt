use Rattle.std.proofs.Common.{◌≡◌, ◌+◌, ◌≤◌, ◌++◌, Some, IsSome, length, map, vec_len, vec_capacity}
use Rattle.std.specs.List.{All}
use Rattle.threaded_jobs.proofs.parting.part_processes.Given as goal

abbrev pub invariant-processes : goal.invariant-processes
invariant-processes g l =
    (l.seats.items ++ map (λ p. p.seats.ports) l.process-iterator.rest.items ≡ l.fn.seats.items ++ map (λ p. p.seats.ports) l.fn.processes.items)
    × (map Some l.ends.items ++ map (λ p. p.end) l.process-iterator.rest.items ≡ map (λ p. p.end) l.fn.processes.items)
    × All (λ p. IsSome p.end) l.process-iterator.rest.items
    × (l.process-iterator.rest.len ≡ length l.process-iterator.rest.items)
    × (vec_len l.seats + l.process-iterator.rest.len ≤ vec_capacity l.seats)
    × (vec_len l.ends + l.process-iterator.rest.len ≤ vec_capacity l.ends)
    × (vec_capacity l.fn.seats ≤ vec_capacity l.seats)

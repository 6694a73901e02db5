use Rattle.std.proofs.Common.{◌≡◌, ◌+◌, ◌≤◌, ◌++◌, ℕ, get_or, length, map, vec_capacity}
use Rattle.std.specs.List.{All}
use Rattle.atomic_table.specs.Seated.{TableId}
use Rattle.run_jobs.specs.Working.{CanWork}
use Rattle.run_lanes.specs.declared.parts.WorkerLanes.{WorkerLanes}
use Rattle.run_lanes.proofs.Places.{IsRest, ArePlaced}
use Rattle.ticket_account.specs.Opening.{IsOther, IsReadyJob}
use Rattle.run_seats.specs.Dealt.{AreReadyWorkers, IsDealtWorker}
use Rattle.run_seats.proofs.dealing.worker_jobs.Given as goal

abbrev pub invariant-workers : goal.invariant-workers
invariant-workers g l =
    IsRest l.counter l.fn.workers.items l.workers.rest.items l.workers.rest.len
    × (map (λ w. w.seats) l.all.items ++ l.seats.rest.items ≡ l.fn.seats.rest.items)
    × (l.seats.rest.len + l.counter ≡ l.fn.seats.rest.len)
    × (map (λ w. w.over) l.all.items ++ l.over.rest.items ≡ l.fn.over.rest.items)
    × (l.over.rest.len + l.counter ≡ l.fn.over.rest.len)
    × ((many : ℕ) × AreReadyWorkers many l.fn.workers.items × All (IsReadyJob many) l.seats.rest.items)
    × ((word : TableId) × All (IsOther word) l.over.rest.items)
    × ArePlaced (λ n job. (w : WorkerLanes) → IsDealtWorker (get_or l.fn.workers.items n w) job) l.counter l.all.items
    × All CanWork l.all.items
    × (length l.fn.workers.items ≤ vec_capacity l.all)

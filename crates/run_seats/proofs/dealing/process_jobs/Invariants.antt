use Rattle.std.proofs.Common.{◌≡◌, ◌+◌, ◌≤◌, ◌++◌, ℕ, get_or, length, map, vec_capacity}
use Rattle.std.specs.List.{All}
use Rattle.atomic_table.specs.Seated.{TableId}
use Rattle.threaded_jobs.specs.process_job.Jobs.{CanRun}
use Rattle.run_lanes.proofs.Places.{IsRest, ArePlaced}
use Rattle.ticket_account.specs.Opening.{IsCounted, IsReadyJob}
use Rattle.run_seats.specs.declared.plans.ProcessPlan.{ProcessPlan}
use Rattle.run_seats.specs.Dealt.{IsDealtProcess}
use Rattle.run_seats.specs.Plans.{IsReadyPlan}
use Rattle.run_seats.proofs.dealing.process_jobs.Given as goal

abbrev pub invariant-processes : goal.invariant-processes
invariant-processes g l =
    IsRest l.counter l.fn.plans.items l.plans.rest.items l.plans.rest.len
    × (l.over.rest.len + l.counter ≡ length l.fn.over.items)
    × ((word : TableId) × All (IsCounted word) l.over.rest.items)
    × (map (λ p. p.seats.ports) l.all.items ++ l.seats.rest.items ≡ l.fn.seats.rest.items)
    × (l.seats.rest.len + l.counter ≡ l.fn.seats.rest.len)
    × ((many : ℕ) × All (IsReadyPlan many) l.fn.plans.items × All (IsReadyJob many) l.seats.rest.items)
    × ArePlaced (λ n job. (p : ProcessPlan) → IsDealtProcess (get_or l.fn.plans.items n p) job) l.counter l.all.items
    × All CanRun l.all.items
    × (length l.fn.plans.items ≤ vec_capacity l.all)

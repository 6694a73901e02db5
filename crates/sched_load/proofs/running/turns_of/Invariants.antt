use Rattle.std.proofs.Common.{◌≡◌, take}
use Rattle.std.specs.List.{sum_by}
use Rattle.run_queue.specs.Seats.{counted, stolen_by}
use Rattle.sched_load.proofs.running.turns_of.Given as goal

abbrev pub invariant-schedulers : goal.invariant-schedulers
invariant-schedulers l =
    (l.turns.queued ≡ counted (sum_by (λ s. s.counts.queued) (take l.scheduler-index l.schedulers)))
    × (l.turns.stolen ≡ counted (sum_by (λ s. stolen_by s.seats.run) (take l.scheduler-index l.schedulers)))
    × (l.turns.idle ≡ counted (sum_by (λ s. s.counts.idle) (take l.scheduler-index l.schedulers)))

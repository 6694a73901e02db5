use Rattle.std.proofs.Common.{◌≡◌, ◌++◌, List, length, []}
use Rattle.port_sched.specs.declared.schedulers.Scheduler.{Scheduler}
use Rattle.port_sched.specs.declared.waking.JobSeats.{JobSeats}
use Rattle.ticket_account.specs.Run.{HasRun}
use Rattle.ticket_account.proofs.Gathered.{Gathered}
use Rattle.ticket_account.proofs.gathering.gather.Given as goal

abbrev pub invariant-schedulers : goal.invariant-schedulers
invariant-schedulers g l =
    (gone : List (Scheduler _ _)) × (l.schedulers.items ++ gone ≡ l.fn.schedulers.items)
    × ((run : HasRun l.fn.schedulers.items l.fn.jobs.items) → Gathered run gone [] (length l.schedulers.items) (length l.fn.jobs.items) l.all)

abbrev pub decreases-schedulers : goal.decreases-schedulers
decreases-schedulers g l = goal.left-schedulers g l

abbrev pub invariant-jobs : goal.invariant-jobs
invariant-jobs g l =
    (gone : List (JobSeats _ _)) × (l.jobs.items ++ gone ≡ l.fn.jobs.items)
    × ((run : HasRun l.fn.schedulers.items l.fn.jobs.items) → Gathered run l.fn.schedulers.items gone 0 (length l.jobs.items) l.all)

abbrev pub decreases-jobs : goal.decreases-jobs
decreases-jobs g l = goal.left-jobs g l

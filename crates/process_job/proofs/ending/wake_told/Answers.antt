use Rattle.std.proofs.Common.{[], sym, subst}
use Rattle.process_job.specs.Seats.{SeatsGo}
use Rattle.process_job.proofs.Seating.{after_halt, halted_then, seats_then}
use Rattle.process_job.proofs.ending.wake_told.Goals as goal
use Rattle.process_job.proofs.ending.wake_told.Goals.{then-is_some_and+in_ok-wake, else-is_some_and}

pub returns-in_err-wake : goal.returns-in_err-wake
returns-in_err-wake g c =
    after_halt c.from_residual.result c.in_err-wake.field-0.0 c.args.seats.now c.wake.new.self c.from_residual.ensures.1
    (halted_then c.in_err-wake.field-0.0 c.args.seats.now c.ports.seats c.wake.new.self c.ports.invariant c.in_err-wake.ensures)

pub ports-preserved : goal.ports-preserved
ports-preserved g c =
    elim c.if-is_some_and.branch [
      | then-is_some_and+in_ok-wake w ↦ subst (SeatsGo [] c.args.seats.now) (sym w.seats-is) (seats_then [] c.args.seats.now c.ports.seats w.wake.new.self c.ports.invariant w.in_ok-wake.ensures)
      | else-is_some_and w ↦ subst (SeatsGo [] c.args.seats.now) (sym w.seats-is) c.ports.invariant
    ]

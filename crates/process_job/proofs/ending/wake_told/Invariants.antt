use Rattle.std.proofs.Common.{[]}
use Rattle.process_job.specs.Seats.{SeatsGo}
use Rattle.process_job.proofs.ending.wake_told.Given as goal

abbrev pub invariant-ports : goal.invariant-ports
invariant-ports g l = SeatsGo [] l.fn.seats l.seats

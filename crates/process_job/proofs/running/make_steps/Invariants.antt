use Rattle.std.proofs.Common.{◌≡◌, [], ℕ, length}
use Rattle.process_job.specs.Going.{state}
use Rattle.process_job.specs.Jobs.{AreAmong, AreWithin}
use Rattle.process_job.specs.Seats.{SeatsGo, HasPorts}
use Rattle.process_job.specs.Steps.{HasComeTo, HasTakenNone}
use Rattle.process_job.proofs.running.make_steps.Given as goal

abbrev pub invariant-steps : goal.invariant-steps
invariant-steps g l = record {
  seats : SeatsGo [] l.fn.seats l.seats;
  ports : HasPorts l.seats l.sender;
  within : (processes : ℕ) × AreAmong processes l.sender.lanes × AreWithin processes (length l.sender.lanes) l.steps.items;
  silent : length l.fn.proc.lanes ≡ 0 → HasTakenNone l.fn.proc.mailbox l.fn.log l.sender.mailbox l.log;
  come : HasComeTo l.fn.own_steps.steps.items l.fn.own_steps.files.items (state l.fn.proc l.fn.log) l.steps.items l.files.items (state l.sender l.log);
}

abbrev pub decreases-steps : goal.decreases-steps
decreases-steps g l = length l.steps.items

use Rattle.std.proofs.Common.{◌≡◌, ◌<◌, true, length}
use Rattle.port_sched.specs.Running.{Looked}
use Rattle.process_job.specs.Waits.{FoundClosed}
use Rattle.process_job.specs.Going.{state, Waits}
use Rattle.process_job.proofs.waiting.wait_for_data.Given as goal

abbrev pub invariant-mail : goal.invariant-mail
invariant-mail g l = record {
  looked : Looked l.fn.over l.over;
  waits : Waits (state l.fn.proc l.fn.log) (state l.proc l.log);
  inside : l.port < length l.proc.lanes;
  closed : l.closed ≡ true → FoundClosed l.port l.proc.seats;
}

use Rattle.port_sched.specs.Running.{Looked}
use Rattle.process_job.specs.Going.{state, Waits}
use Rattle.process_job.proofs.waiting.wait_for_reply.Given as goal

abbrev pub invariant-mail : goal.invariant-mail
invariant-mail g l = Looked l.fn.over l.over × Waits (state l.fn.proc l.fn.log) (state l.proc l.log)

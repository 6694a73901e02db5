use Rattle.port_sched.specs.Running.{Looked}
use Rattle.process_job.specs.Going.{state, Waits}
use Rattle.process_job.proofs.waiting.go_on.Given as goal

abbrev pub invariant-tries : goal.invariant-tries
invariant-tries g l = Looked l.fn.over l.over × Waits (state l.fn.stopped.proc l.fn.log) (state l.waiting.proc l.log)

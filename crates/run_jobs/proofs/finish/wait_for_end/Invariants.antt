use Rattle.port_sched.specs.Running.{Looked}
use Rattle.run_jobs.proofs.finish.wait_for_end.Given as goal

abbrev pub invariant-looks : goal.invariant-looks
invariant-looks g l = Looked l.fn.over l.over

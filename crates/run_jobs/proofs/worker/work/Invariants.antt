use Rattle.std.proofs.Common.{[]}
use Rattle.port_sched.specs.Running.{Looked}
use Rattle.port_sched.specs.Waking.{Woke}
use Rattle.run_jobs.proofs.Works.{WorksSo}
use Rattle.run_jobs.proofs.worker.work.Given as goal

abbrev pub invariant-turns : goal.invariant-turns
invariant-turns g l = WorksSo l.fn.jobs l.jobs l.fn.lanes.items l.lanes.items × Looked l.fn.over l.over × Woke [] l.fn.seats l.seats

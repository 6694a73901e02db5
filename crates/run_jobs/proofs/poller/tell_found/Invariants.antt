use Rattle.std.proofs.Common.{[], take}
use Rattle.port_sched.specs.Waking.{Woke}
use Rattle.run_jobs.specs.Telling.{Sends}
use Rattle.run_jobs.specs.Rounds.{tasks_of}
use Rattle.run_jobs.proofs.poller.tell_found.Given as goal

abbrev pub invariant-found : goal.invariant-found
invariant-found g l = Sends (tasks_of (take l.ask-index l.found)) l.fn.lanes.items l.lanes.items × Woke [] l.fn.seats l.seats

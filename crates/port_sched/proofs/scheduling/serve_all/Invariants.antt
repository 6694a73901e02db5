use Rattle.std.proofs.Common.{[]}
use Rattle.port_sched.specs.Counts.{KeepsCounts}
use Rattle.port_sched.specs.Homes.{AreHomes}
use Rattle.port_sched.specs.Running.{Looked}
use Rattle.port_sched.specs.Tickets.{Serves}
use Rattle.port_sched.proofs.scheduling.serve_all.Given as goal

abbrev pub invariant-rounds : goal.invariant-rounds
invariant-rounds g l = AreHomes l.homes.items × Serves [] [] l.fn.homes.items l.fn.run l.homes.items l.run × Looked l.fn.over l.over × KeepsCounts l.fn.counts l.fn.homes.items l.counts l.homes.items

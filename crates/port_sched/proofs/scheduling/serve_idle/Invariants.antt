use Rattle.std.proofs.Common.{[]}
use Rattle.port_sched.specs.Counts.{KeepsCounts}
use Rattle.port_sched.specs.Homes.{AreHomes}
use Rattle.port_sched.specs.Tickets.{Serves}
use Rattle.port_sched.proofs.scheduling.serve_idle.Given as goal

abbrev pub invariant-ports : goal.invariant-ports
invariant-ports g l = AreHomes l.homes.items × Serves [] [] l.fn.homes.items l.fn.run l.homes.items l.run × KeepsCounts l.fn.counts l.fn.homes.items l.counts l.homes.items

use Rattle.std.proofs.Common.{[]}
use Rattle.port_sched.specs.Running.{Looked}
use Rattle.port_sched.specs.Waking.{Woke}
use Rattle.run_jobs.proofs.Polls.{PollsSo}
use Rattle.run_jobs.proofs.poller.poll.Given as goal

abbrev pub invariant-rounds : goal.invariant-rounds
invariant-rounds g l =
    PollsSo
    (record { faults = g.S.PollSet.faults l.fn.watch.poll; answered = g.S.PollSet.answered l.fn.watch.poll; table = l.fn.watch.table; found = []; lane = l.fn.watch.asks })
    (record { faults = g.S.PollSet.faults l.watch.poll; answered = g.S.PollSet.answered l.watch.poll; table = l.watch.table; found = []; lane = l.watch.asks })
    l.fn.lanes.items l.lanes.items
    × Looked l.fn.over l.over
    × Woke [] l.fn.seats l.seats

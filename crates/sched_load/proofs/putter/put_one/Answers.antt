use Rattle.std.proofs.Common.{[], arith}
use Rattle.sched_load.proofs.Puts.{nothing_woken, waken}
use Rattle.sched_load.proofs.putter.put_one.Goals as goal

pub returns-then-is_err-clause-woke : goal.returns-then-is_err-clause-woke
returns-then-is_err-clause-woke g c = ([], omega arith, nothing_woken c.args.seats.now c.requires.homes)

pub returns-clause-woke : goal.returns-clause-woke
returns-clause-woke g c =
    let w = c.wake.ensures in
    waken c.wake.result c.args.seats.now c.wake.new.self w.tickets.0 w.refused w.homes w.tickets.1 w.tickets.2

use Rattle.std.proofs.Common.{[], refl, arith}
use Rattle.port_sched.proofs.Begun.{new_counts}
use Rattle.port_sched.proofs.Looks.{looked_none}
use Rattle.port_sched.proofs.Served.{served_none}
use Rattle.port_sched.proofs.schedulers.Scheduler.give_up.Goals as goal

pub returns : goal.returns
returns g c = record {
  homes = c.requires.homes;
  tickets = ([], omega arith, served_none _ _);
  ends = (c.args.self.now.seats.over, c.stop.result, looked_none _, c.stop.ensures.seat);
  turns = new_counts _ _ refl refl;
}

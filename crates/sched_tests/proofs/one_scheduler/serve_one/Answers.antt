use Rattle.sched_tests.proofs.Back.{back}
use Rattle.sched_tests.proofs.one_scheduler.serve_one.Goals as goal

pub returns : goal.returns
returns g c = back c.args.home c.in_ok-home.home _ _ _ c.in-Ok.ensures.0 c.in_ok-home.ensures.items c.scheduler-end.ensures.tickets.2.steps c.scheduler-end.ensures.homes

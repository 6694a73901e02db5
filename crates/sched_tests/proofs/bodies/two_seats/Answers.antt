use Rattle.sched_tests.proofs.Back.{two}
use Rattle.sched_tests.proofs.bodies.two_seats.Goals as goal

pub returns : goal.returns
returns c = two c.args.port _ _ _ _ c.in_ok-first.first c.in_ok-second.second c.in-Ok.ensures.ok c.in_ok-second.ensures.items c.in_ok-first.ensures.items

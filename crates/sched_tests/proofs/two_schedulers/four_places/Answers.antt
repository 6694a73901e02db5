use Rattle.sched_tests.proofs.Places.{four}
use Rattle.sched_tests.proofs.two_schedulers.four_places.Goals as goal

pub returns : goal.returns
returns c = four c.in-Ok.ensures.0 _ _ _ _ _ c.in_ok-first.first c.in_ok-second.second c.in_ok-third.third c.in_ok-fourth.fourth
    c.in-Ok.ensures.1 c.in_ok-fourth.ensures.items c.in_ok-third.ensures.items c.in_ok-second.ensures.items c.in_ok-first.ensures.items

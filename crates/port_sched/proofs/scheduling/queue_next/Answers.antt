use Rattle.std.proofs.Common.{inl}
use Rattle.port_sched.proofs.scheduling.queue_next.Goals as goal

pub returns-in-Ok-clause-ok : goal.returns-in-Ok-clause-ok
returns-in-Ok-clause-ok g c = inl (c.in-Some.ticket, c.in-Some.ensures.port, c.in-Some.ensures.homes.1, c.in-Ok.ensures.ok)

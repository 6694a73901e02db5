use Rattle.port_sched.proofs.Served.{served_taken}
use Rattle.port_sched.proofs.scheduling.serve.Goals as goal

pub returns-in-Some-clause-tickets : goal.returns-in-Some-clause-tickets
returns-in-Some-clause-tickets g c =
    let f = c.serve_ticket.ensures.tickets in
    (f.0, f.1, served_taken c.in-Some.ticket f.0 _ _ _ _ _ c.in-Some.ensures.some f.2)

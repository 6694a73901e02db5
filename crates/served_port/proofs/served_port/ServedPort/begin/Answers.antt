use Rattle.served_port.proofs.Same.{on-any}
use Rattle.served_port.proofs.served_port.ServedPort.begin.Goals as goal

pub returns-in-Ok-clause-events : goal.returns-in-Ok-clause-events
returns-in-Ok-clause-events g c = rw (← c.self.view_is, c.submit.ensures.same.1) (on-any c.submit.result (record { agrees = c.in-Ok.ensures.events; asks = c.in-Ok.ensures.asks }))

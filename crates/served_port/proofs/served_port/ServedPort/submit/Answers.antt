use Rattle.served_port.proofs.EndNames.{names_kept}
use Rattle.served_port.proofs.served_port.ServedPort.submit.Goals as goal

pub returns-clause-pool : goal.returns-clause-pool
returns-clause-pool g c = rw (← c.self.view_is) (names_kept c.submit.result _ _ _ c.submit.ensures.ok c.submit.ensures.err)

use Rattle.std.proofs.Common.{sym, subst}
use Rattle.process_end.specs.Ports.{AllFree}
use Rattle.process_end.proofs.proc.Proc.mail.Goals as goal

pub invariant_of-self : goal.invariant_of-self
invariant_of-self g c = subst AllFree (sym c.mail.ensures.rest) c.self.invariant

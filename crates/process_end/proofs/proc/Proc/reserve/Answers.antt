use Rattle.std.proofs.Common.{sym, subst}
use Rattle.process_end.specs.Ports.{AllFree}
use Rattle.process_end.proofs.proc.Proc.reserve.Goals as goal

pub invariant_of-self : goal.invariant_of-self
invariant_of-self c = subst AllFree (sym c.reserve.ensures) c.self.invariant

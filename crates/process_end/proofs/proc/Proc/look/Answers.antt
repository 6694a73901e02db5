use Rattle.std.proofs.Common.{◌<◌, length, sym, subst}
use Rattle.process_end.proofs.Heard.{free-looked}
use Rattle.process_end.proofs.proc.Proc.look.Goals as goal

pub invariant_of-self : goal.invariant_of-self
invariant_of-self c = free-looked c.self.inside.sides c.look.new.self c.args.port c.look.result c.look.ensures
    (subst (λ p. c.args.port < length p.lanes) (sym c.self.view_is) c.requires) c.self.invariant

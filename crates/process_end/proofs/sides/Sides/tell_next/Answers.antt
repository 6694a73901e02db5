use Rattle.std.proofs.Common.{refl, sym, subst}
use Rattle.process_end.specs.Ports.{AllFree}
use Rattle.process_end.proofs.Answered.{answered-free}
use Rattle.process_end.proofs.sides.Sides.tell_next.Goals as goal

pub returns-clause-free : goal.returns-clause-free
returns-clause-free g c = subst AllFree (sym c.self-2.view_is) (answered-free c.ask.result _ c.ask.new.self _ c.ask.ensures.free c.ask.ensures.made c.ask.ensures.still_free refl)

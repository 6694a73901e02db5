use Rattle.std.proofs.Common.{sym, ap, subst}
use Rattle.process_end.specs.Calls.{HasAsked}
use Rattle.process_end.proofs.Going.{asked-mailed, stopped-mailed}
use Rattle.process_end.proofs.stopped.Stopped.try_resume.Goals as goal

pub invariant_of-stopped-then-resumed : goal.invariant_of-stopped-then-resumed
invariant_of-stopped-then-resumed g c = stopped-mailed (record { proc = c.self.inside.sides; note = c.self.inside.note; resumed = c.self.inside.resumed })
    c.mail.new.self c.is_resume-resumed.result c.self.invariant c.mail.ensures.rest

pub invariant_of-stopped-else-resumed : goal.invariant_of-stopped-else-resumed
invariant_of-stopped-else-resumed g c = stopped-mailed (record { proc = c.self.inside.sides; note = c.self.inside.note; resumed = c.self.inside.resumed })
    c.mail.new.self c.is_resume-resumed.result c.self.invariant c.mail.ensures.rest

pub returns-then-resumed-clause-asked : goal.returns-then-resumed-clause-asked
returns-then-resumed-clause-asked g c = λ asks h. c.go_on-then-resumed.ensures.asked asks
    (asked-mailed c.self.inside.sides c.mail.new.self asks c.mail.ensures.rest (subst (HasAsked asks) (ap (λ s. s.proc) (sym c.self.view_is)) h))

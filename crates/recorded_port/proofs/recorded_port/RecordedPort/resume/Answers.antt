use Rattle.std.proofs.Common.{Contains, sym, ap, subst}
use Rattle.std.proofs.lemmas.List.Elements.{Contains-push}
use Rattle.port_words.specs.busy.Known.{PortKnown}
use Rattle.recorded_port.specs.View.{RecordedView}
use Rattle.recorded_port.proofs.TaskRows.{settled-heard}
use Rattle.recorded_port.proofs.recorded_port.RecordedPort.resume.Goals as goal

pub returns-then-not-may_resume-clause-settled : goal.returns-then-not-may_resume-clause-settled
returns-then-not-may_resume-clause-settled g c =
    settled-heard c.args.self.now _ _ c.look_msgq-word.result c.requires.settled (ap (λ (v : RecordedView). record v { seat = c.look_msgq-word.new.self }) c.self.view_is)
    (ap (λ (v : RecordedView). v.seat) c.self.view_is) c.look_msgq-word.ensures.seat

pub resume_all-requires-clause-settled : goal.resume_all-requires-clause-settled
resume_all-requires-clause-settled g c =
    settled-heard c.args.self.now _ _ c.look_msgq-word.result c.requires.settled (ap (λ (v : RecordedView). record v { seat = c.look_msgq-word.new.self }) c.self.view_is)
    (ap (λ (v : RecordedView). v.seat) c.self.view_is) c.look_msgq-word.ensures.seat

pub resume_all-requires-clause-found : goal.resume_all-requires-clause-found
resume_all-requires-clause-found g c =
    subst (λ (x : PortKnown). Contains x.known.words c.look_msgq-word.result) (sym c.look_msgq-word.ensures.seat) (Contains-push c.self.inside.seat.known.words c.look_msgq-word.result)

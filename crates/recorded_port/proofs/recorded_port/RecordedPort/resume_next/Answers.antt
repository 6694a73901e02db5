use Rattle.std.proofs.Common.{◌∷◌, map, is_some, sym, ap, ◌∙◌, subst}
use Rattle.std.specs.Prelude.{not}
use Rattle.port_model.specs.declared.signal.Sender.TheVariants.{Process}
use Rattle.port_lanes.specs.port_history.Suspension.{entry}
use Rattle.port_suspension.specs.Listed.{AgreesListed, listed_as}
use Rattle.recorded_port.specs.View.{RecordedView, state_of}
use Rattle.recorded_port.proofs.TaskRows.{resumed-first}
use Rattle.recorded_port.proofs.recorded_port.RecordedPort.resume_next.Goals as goal

pub returns-clause-settled : goal.returns-clause-settled
returns-clause-settled g c =
    let old = c.args.self.now in
    let s = state_of old in
    let settled = c.requires.settled in
    let e = c.in-Some.entry in
    let agrees = subst (λ (v : RecordedView). AgreesListed v.suspended s.listed) (sym c.self.view_is) settled.recorded.listed in
    let rest = c.in-Some.ensures.rest s.listed agrees in
    let listed = sym agrees ∙ (ap (map listed_as) c.in-Some.ensures.entries ∙ ap (λ x. entry (Process e.process) e.seq ∷ x) rest) in
    let told = ap (λ x. not (is_some x)) (sym settled.recorded.at.state.reason) ∙ ap (λ (v : RecordedView). not (is_some v.port.state.reason)) (sym c.self.view_is) in
    (resumed-first old _ c.write_resumed.new.self e.process e.seq c.args.word settled (c.in-Some.ensures.some s.listed agrees) c.requires.may c.requires.found listed rest
    (record {
      opening = ap (λ (v : RecordedView). v.opening) c.self.view_is;
      rows = ap (λ (v : RecordedView). v.rows) c.self.view_is;
      room = ap (λ (v : RecordedView). v.room) c.self.view_is;
      port = ap (λ (v : RecordedView). v.port) c.self.view_is;
      ends = ap (λ (v : RecordedView). v.ends) c.self.view_is;
      seat = ap (λ (v : RecordedView). v.seat) c.self.view_is;
      places = c.resume_first.ensures.places ∙ ap (λ (v : RecordedView). v.suspended.places) c.self.view_is;
    }) c.write_resumed.ensures.rows (c.in_ok-write_resumed.ensures.mail s told)).settled

pub returns-clause-next : goal.returns-clause-next
returns-clause-next g c =
    let old = c.args.self.now in
    let s = state_of old in
    let settled = c.requires.settled in
    let e = c.in-Some.entry in
    let agrees = subst (λ (v : RecordedView). AgreesListed v.suspended s.listed) (sym c.self.view_is) settled.recorded.listed in
    let rest = c.in-Some.ensures.rest s.listed agrees in
    let listed = sym agrees ∙ (ap (map listed_as) c.in-Some.ensures.entries ∙ ap (λ x. entry (Process e.process) e.seq ∷ x) rest) in
    let told = ap (λ x. not (is_some x)) (sym settled.recorded.at.state.reason) ∙ ap (λ (v : RecordedView). not (is_some v.port.state.reason)) (sym c.self.view_is) in
    (resumed-first old _ c.write_resumed.new.self e.process e.seq c.args.word settled (c.in-Some.ensures.some s.listed agrees) c.requires.may c.requires.found listed rest
    (record {
      opening = ap (λ (v : RecordedView). v.opening) c.self.view_is;
      rows = ap (λ (v : RecordedView). v.rows) c.self.view_is;
      room = ap (λ (v : RecordedView). v.room) c.self.view_is;
      port = ap (λ (v : RecordedView). v.port) c.self.view_is;
      ends = ap (λ (v : RecordedView). v.ends) c.self.view_is;
      seat = ap (λ (v : RecordedView). v.seat) c.self.view_is;
      places = c.resume_first.ensures.places ∙ ap (λ (v : RecordedView). v.suspended.places) c.self.view_is;
    }) c.write_resumed.ensures.rows (c.in_ok-write_resumed.ensures.mail s told)).resumes

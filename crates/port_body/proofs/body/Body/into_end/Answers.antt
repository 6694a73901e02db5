use Rattle.std.proofs.Common.{◌≡◌, false, IfSome, sym, ap, ◌∙◌, subst}
use Rattle.std.specs.Prelude.{reverse}
use Rattle.port_driver.specs.driver_model.Calls.{Held}
use Rattle.port_driver.specs.driver_model.Programs.{Tells}
use Rattle.port_driver.specs.Faults.{failures_in, RisenBy}
use Rattle.recorded_port.specs.View.{is_finished, state_of}
use Rattle.port_body.specs.Body.{BodyView}
use Rattle.port_body.specs.Ends.{IsWholeEnd}
use Rattle.port_body.specs.LanePort.{LanePortView, IsBody}
use Rattle.port_body.proofs.Ends.{outlets_of, whole-end}
use Rattle.port_body.proofs.Events.{left-by-calls}
use Rattle.port_body.proofs.body.Body.into_end.Goals as goal

pub returns-clause-stands : goal.returns-clause-stands
returns-clause-stands g c = λ whole.
    let v = c.args.self in
    let body = subst (λ (v : BodyView). v.broken ≡ false → IsBody v.lane_port) c.self.view_is c.self.invariant.body whole in
    let at_lane = c.lane_port.view_is ∙ ap (λ (v : BodyView). v.lane_port) c.self.view_is in
    let recorded = body.holds.settled.recorded in
    let stands = recorded.at.state.stands in
    left-by-calls v.lane_port.port.opening (reverse v.lane_port.port.rows) _ _ recorded.events
    (c.into_end.ensures.own ∙ (ap (λ (p : LanePortView). p.port.port.state.service.own) at_lane ∙ ap (λ (h : Held). h.own) stands.holds))
    (subst (λ program. IfSome program (Tells v.lane_port.port.opening.config (state_of v.lane_port.port).calls))
    (sym (c.into_end.ensures.program ∙ ap (λ (p : LanePortView). p.port.port.state.service.program) at_lane)) stands.told)

pub returns-clause-whole : goal.returns-clause-whole
returns-clause-whole g c = λ whole.
    let v = c.args.self in
    let body = subst (λ (v : BodyView). v.broken ≡ false → IsBody v.lane_port) c.self.view_is c.self.invariant.body whole in
    let finished = subst (λ (v : BodyView). v.broken ≡ false → v.finished ≡ is_finished (state_of v.lane_port.port)) c.self.view_is c.self.invariant.finished whole in
    let at_lane = c.lane_port.view_is ∙ ap (λ (v : BodyView). v.lane_port) c.self.view_is in
    subst (λ rows. IsWholeEnd v rows c.into_end.result.outlets c.lane_port.inside.lane) (sym (c.into_end.ensures.journal ∙ ap (λ (p : LanePortView). p.port.rows) at_lane))
    (subst (λ outlets. IsWholeEnd v v.lane_port.port.rows outlets c.lane_port.inside.lane) (sym (c.into_end.ensures.outlets ∙ ap (λ (p : LanePortView). outlets_of p.port) at_lane))
    (subst (λ lane. IsWholeEnd v v.lane_port.port.rows (outlets_of v.lane_port.port) lane) (sym (ap (λ (p : LanePortView). p.lane) at_lane)) (whole-end v body finished)))

pub returns-clause-failed : goal.returns-clause-failed
returns-clause-failed g c =
    let v = c.args.self in
    let failed = subst (λ (v : BodyView). RisenBy (failures_in v.lane_port.port.rows) v.first_faults v.lane_port.port.port.state.service.faults) c.self.view_is c.self.invariant.failed in
    let at_lane = c.lane_port.view_is ∙ ap (λ (v : BodyView). v.lane_port) c.self.view_is in
    subst (λ rows. RisenBy (failures_in rows) v.first_faults (g.D.Driver.faults c.into_end.result.driver)) (sym (c.into_end.ensures.journal ∙ ap (λ (p : LanePortView). p.port.rows) at_lane))
    (subst (λ faults. RisenBy (failures_in v.lane_port.port.rows) v.first_faults faults) (sym (c.into_end.ensures.faults ∙ ap (λ (p : LanePortView). p.port.port.state.service.faults) at_lane)) failed)

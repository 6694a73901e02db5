use Rattle.std.proofs.Common.{sym, ap, ◌∙◌, subst}
use Rattle.port_lanes.specs.port_history.Opening.{taken_of}
use Rattle.port_mail.specs.Rows.{IsRowOf}
use Rattle.served_port.specs.View.{end_names}
use Rattle.recorded_port.specs.View.{RecordedView}
use Rattle.recorded_port.proofs.Same.{put-names}
use Rattle.recorded_port.proofs.recorded_port.RecordedPort.write_handled.Goals as goal

pub returns-clause-ends : goal.returns-clause-ends
returns-clause-ends g c =
    let made = c.args.served in
    let t = taken_of c.args.from c.args.seq c.args.task made.outside made.effects in
    let o = c.args.self.now.opening in
    let row = subst (λ x. IsRowOf made.handling x c.signal.result.now made.closing o c.requires.served.0 t) (sym c.as_slice.ensures.items)
    (subst (λ x. IsRowOf made.handling made.effects x made.closing o c.requires.served.0 t) (sym c.signal.ensures) c.requires.served.1) in
    rw (← c.self.view_is) (ap (λ (v : RecordedView). end_names v.ends) c.write.ensures.written ∙ put-names c.post_row-posted.result _ _ _ _ (c.post_row-posted.ensures o c.requires.served.0 t row))

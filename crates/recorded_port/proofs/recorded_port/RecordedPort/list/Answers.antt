use Rattle.std.proofs.Common.{refl, [], ◌∷◌, ◌++◌, sym, ap, ◌∙◌, subst}
use Rattle.std.specs.Prelude.{reverse}
use Rattle.port_model.specs.declared.row.Row.TheVariants.{Listed}
use Rattle.port_model.specs.declared.signal.Sender.TheVariants.{Process}
use Rattle.port_suspension.specs.Listed.{AgreesListed}
use Rattle.recorded_port.specs.View.{RecordedView, IsSettled, state_of}
use Rattle.recorded_port.proofs.Append.{listed-row}
use Rattle.recorded_port.proofs.Grown.{same-lists, same-row}
use Rattle.recorded_port.proofs.Same.{not-false-of, same-trans}
use Rattle.recorded_port.proofs.Settled.{settled-more}
use Rattle.recorded_port.proofs.recorded_port.RecordedPort.list.Goals as goal

pub returns-clause-settled : goal.returns-clause-settled
returns-clause-settled g c =
    let old = c.args.self.now in
    let settled = c.requires.settled in
    let listed = subst (λ (v : RecordedView). AgreesListed v.suspended (state_of old).listed) (sym c.self.view_is) settled.recorded.listed in
    subst IsSettled (sym c.write.ensures.written) (settled-more old _ (Listed (Process c.args.process) c.args.seq)
    (ap (λ (v : RecordedView). v.opening) c.self.view_is) (ap (λ (v : RecordedView). v.rows ++ Listed (Process c.args.process) c.args.seq ∷ []) c.self.view_is)
    (listed-row old.opening (reverse old.rows) old _ c.args.process c.args.seq settled.recorded settled.none_due c.requires.may.new c.requires.may.later
    (not-false-of _ (sym c.if-not-list.false ∙ c.list.ensures.value (state_of old).listed listed))
    (c.list.ensures.listed c.if-not-list.false (state_of old).listed listed) (c.list.ensures.places ∙ ap (λ (v : RecordedView). v.suspended.places) c.self.view_is)
    (ap (λ (v : RecordedView). v.port) c.self.view_is) (ap (λ (v : RecordedView). v.ends) c.self.view_is) (ap (λ (v : RecordedView). v.seat) c.self.view_is))
    settled.none_due)

pub returns-clause-same : goal.returns-clause-same
returns-clause-same g c =
    same-trans c.args.self.now _ c.write.new.self
    (same-lists c.args.self.now _ (record {
      opening = ap (λ (v : RecordedView). v.opening) c.self.view_is;
      rows = ap (λ (v : RecordedView). v.rows) c.self.view_is;
      room = ap (λ (v : RecordedView). v.room) c.self.view_is;
      port = ap (λ (v : RecordedView). v.port) c.self.view_is;
      ends = ap (λ (v : RecordedView). v.ends) c.self.view_is;
      seat = ap (λ (v : RecordedView). v.seat) c.self.view_is;
      places = c.list.ensures.places ∙ ap (λ (v : RecordedView). v.suspended.places) c.self.view_is;
    }))
    (same-row _ c.write.new.self (Listed (Process c.args.process) c.args.seq) refl c.write.ensures.written)

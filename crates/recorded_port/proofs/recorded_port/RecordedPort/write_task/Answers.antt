use Rattle.std.proofs.Common.{refl, sym, ap, ◌∙◌, subst}
use Rattle.port_driver.specs.Faults.{failures, RisenBy}
use Rattle.port_lanes.specs.port_history.Opening.{Opening, taken_of}
use Rattle.port_mail.specs.Rows.{IsRowOf}
use Rattle.served_port.specs.Outcomes.{IsOutcome, answers_in}
use Rattle.served_port.specs.View.{IsAt, IsSameServed}
use Rattle.recorded_port.specs.View.{RecordedView, state_of}
use Rattle.recorded_port.proofs.Grown.{same-between, same-handled}
use Rattle.recorded_port.proofs.Same.{on-ok, same-opening, same-trans}
use Rattle.recorded_port.proofs.TaskRows.{handled-task, late-task}
use Rattle.recorded_port.proofs.recorded_port.RecordedPort.write_task.Goals as goal

pub write_handled-requires-clause-served : goal.write_handled-requires-clause-served
write_handled-requires-clause-served g c =
    let old = c.args.self.now in
    let s = state_of old in
    let made = c.in-Handled.served in
    let at = subst (λ (v : RecordedView). IsAt v.port old.opening s) (sym c.self.view_is) c.requires.settled.recorded.at in
    let row = subst (λ x. IsOutcome x old.opening s c.args.from c.args.seq c.args.task c.self.inside.port c.take.new.self) c.in-Handled.is
    (c.in_ok-served.ensures.outcome old.opening s c.args.task (sym c.signal.ensures) at c.requires.settled.none_due) in
    let o : Opening = record {
      number = c.self.inside.fixed.number;
      processes = c.self.inside.port.state.links.processes;
      kind = c.self.inside.port.state.service.kind;
      config = c.self.inside.fixed.config;
      owner = c.self.inside.fixed.owner;
      read = c.self.inside.fixed.read;
      write = c.self.inside.fixed.write;
    } in
    let same = same-opening o _ _ c.take.ensures.same.state.processes c.take.ensures.same.state.kind ∙ ap (λ (v : RecordedView). v.opening) c.self.view_is in
    (s, subst (λ x. IsRowOf made.handling made.effects c.args.task.signal made.closing x s (taken_of c.args.from c.args.seq c.args.task made.outside made.effects)) (sym same) row.mail)

pub returns-in-Handled-clause-writes : goal.returns-in-Handled-clause-writes
returns-in-Handled-clause-writes g c =
    let old = c.args.self.now in
    let s = state_of old in
    let made = c.in-Handled.served in
    let at = subst (λ (v : RecordedView). IsAt v.port old.opening s) (sym c.self.view_is) c.requires.settled.recorded.at in
    let row = subst (λ (v : RecordedView). IsOutcome c.in_ok-served.field-0 old.opening s c.args.from c.args.seq c.args.task v.port c.take.new.self) c.self.view_is
    (c.in_ok-served.ensures.outcome old.opening s c.args.task (sym c.signal.ensures) at c.requires.settled.none_due) in
    let handled = subst (λ x. IsOutcome x old.opening s c.args.from c.args.seq c.args.task old.port c.take.new.self) c.in-Handled.is row in
    let o : Opening = record {
      number = c.self.inside.fixed.number;
      processes = c.self.inside.port.state.links.processes;
      kind = c.self.inside.port.state.service.kind;
      config = c.self.inside.fixed.config;
      owner = c.self.inside.fixed.owner;
      read = c.self.inside.fixed.read;
      write = c.self.inside.fixed.write;
    } in
    let same = same-opening o _ _ c.take.ensures.same.state.processes c.take.ensures.same.state.kind ∙ ap (λ (v : RecordedView). v.opening) c.self.view_is in
    let mailed = subst (λ x. IsRowOf made.handling made.effects c.args.task.signal made.closing x s (taken_of c.args.from c.args.seq c.args.task made.outside made.effects)) (sym same) handled.mail in
    on-ok c.write_handled.result (λ mail. handled-task old _ c.write_handled.new.self c.take.new.self c.args.from c.args.seq c.args.task made
    c.requires.settled c.requires.may handled (record {
      opening = same;
      rows = ap (λ (v : RecordedView). v.rows) c.self.view_is;
      room = ap (λ (v : RecordedView). v.room) c.self.view_is;
      port_is = refl;
      ends = ap (λ (v : RecordedView). v.ends) c.self.view_is;
      seat = ap (λ (v : RecordedView). v.seat) c.self.view_is;
      suspended = ap (λ (v : RecordedView). v.suspended) c.self.view_is;
    }) c.write_handled.ensures.rows (mail s mailed)) c.write_handled.ensures.mail

pub returns-in-Late-clause-writes : goal.returns-in-Late-clause-writes
returns-in-Late-clause-writes g c =
    let old = c.args.self.now in
    let s = state_of old in
    let at = subst (λ (v : RecordedView). IsAt v.port old.opening s) (sym c.self.view_is) c.requires.settled.recorded.at in
    let row = subst (λ (v : RecordedView). IsOutcome c.in_ok-served.field-0 old.opening s c.args.from c.args.seq c.args.task v.port c.take.new.self) c.self.view_is
    (c.in_ok-served.ensures.outcome old.opening s c.args.task (sym c.signal.ensures) at c.requires.settled.none_due) in
    let late = subst (λ x. IsOutcome x old.opening s c.args.from c.args.seq c.args.task old.port c.take.new.self) c.in-Late.is row in
    let o : Opening = record {
      number = c.self.inside.fixed.number;
      processes = c.self.inside.port.state.links.processes;
      kind = c.self.inside.port.state.service.kind;
      config = c.self.inside.fixed.config;
      owner = c.self.inside.fixed.owner;
      read = c.self.inside.fixed.read;
      write = c.self.inside.fixed.write;
    } in
    let same = same-opening o _ _ c.take.ensures.same.state.processes c.take.ensures.same.state.kind ∙ ap (λ (v : RecordedView). v.opening) c.self.view_is in
    on-ok c.write_late.result (λ mail. late-task old _ c.write_late.new.self c.take.new.self c.args.from c.args.seq c.args.task
    c.requires.settled c.requires.may late (record {
      opening = same;
      rows = ap (λ (v : RecordedView). v.rows) c.self.view_is;
      room = ap (λ (v : RecordedView). v.room) c.self.view_is;
      port_is = refl;
      ends = ap (λ (v : RecordedView). v.ends) c.self.view_is;
      seat = ap (λ (v : RecordedView). v.seat) c.self.view_is;
      suspended = ap (λ (v : RecordedView). v.suspended) c.self.view_is;
    }) c.write_late.ensures.rows (mail s)) c.write_late.ensures.mail

pub returns-in-Handled-clause-same : goal.returns-in-Handled-clause-same
returns-in-Handled-clause-same g c =
    let made = c.in-Handled.served in
    let o : Opening = record {
      number = c.self.inside.fixed.number;
      processes = c.self.inside.port.state.links.processes;
      kind = c.self.inside.port.state.service.kind;
      config = c.self.inside.fixed.config;
      owner = c.self.inside.fixed.owner;
      read = c.self.inside.fixed.read;
      write = c.self.inside.fixed.write;
    } in
    let opening = same-opening o _ _ c.take.ensures.same.state.processes c.take.ensures.same.state.kind ∙ ap (λ (v : RecordedView). v.opening) c.self.view_is in
    let same = subst (λ (v : RecordedView). IsSameServed v.port c.take.new.self) c.self.view_is c.take.ensures.same in
    let counted = subst (λ (v : RecordedView). RisenBy (failures made.outside) v.port.state.service.faults c.take.new.self.state.service.faults) c.self.view_is
    (subst (λ x. RisenBy (failures (answers_in x)) c.self.inside.port.state.service.faults c.take.new.self.state.service.faults) c.in-Handled.is c.in_ok-served.ensures.failed) in
    same-handled c.args.self.now _ c.write_handled.new.self c.take.new.self c.args.from c.args.seq c.args.task made.outside made.effects
    (record {
      opening = opening;
      rows = ap (λ (v : RecordedView). v.rows) c.self.view_is;
      room = ap (λ (v : RecordedView). v.room) c.self.view_is;
      port_is = refl;
      ends = ap (λ (v : RecordedView). v.ends) c.self.view_is;
      seat = ap (λ (v : RecordedView). v.seat) c.self.view_is;
      suspended = ap (λ (v : RecordedView). v.suspended) c.self.view_is;
    }) same counted c.write_handled.ensures.rows c.write_handled.ensures.ends

pub returns-in-Late-clause-same : goal.returns-in-Late-clause-same
returns-in-Late-clause-same g c =
    let o : Opening = record {
      number = c.self.inside.fixed.number;
      processes = c.self.inside.port.state.links.processes;
      kind = c.self.inside.port.state.service.kind;
      config = c.self.inside.fixed.config;
      owner = c.self.inside.fixed.owner;
      read = c.self.inside.fixed.read;
      write = c.self.inside.fixed.write;
    } in
    let opening = same-opening o _ _ c.take.ensures.same.state.processes c.take.ensures.same.state.kind ∙ ap (λ (v : RecordedView). v.opening) c.self.view_is in
    let same = subst (λ (v : RecordedView). IsSameServed v.port c.take.new.self) c.self.view_is c.take.ensures.same in
    same-trans c.args.self.now _ c.write_late.new.self
    (same-between c.args.self.now _ c.take.new.self
    (record {
      opening = opening;
      rows = ap (λ (v : RecordedView). v.rows) c.self.view_is;
      room = ap (λ (v : RecordedView). v.room) c.self.view_is;
      port_is = refl;
      ends = ap (λ (v : RecordedView). v.ends) c.self.view_is;
      seat = ap (λ (v : RecordedView). v.seat) c.self.view_is;
      suspended = ap (λ (v : RecordedView). v.suspended) c.self.view_is;
    }) same) c.write_late.ensures.same

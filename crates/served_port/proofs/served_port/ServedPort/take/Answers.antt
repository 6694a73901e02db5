use Rattle.std.proofs.Common.{sym, ap, ◌∙◌, arith}
use Rattle.port_driver.proofs.Faults.{risen-on}
use Rattle.served_port.specs.Outcomes.{is_handled}
use Rattle.served_port.proofs.Laws.{late-keeps}
use Rattle.served_port.proofs.TakenRows.{handled-outcome}
use Rattle.served_port.proofs.served_port.ServedPort.take.Goals as goal

pub returns-then-not-handles-clause-outcome : goal.returns-then-not-handles-clause-outcome
returns-then-not-handles-clause-outcome g c = λ port s task e at settled.
    let late = ap (λ x. is_handled s c.args.from x) e ∙ (sym (c.handles.ensures port s at) ∙ c.if-not-handles.true) in
    record {
      late = late;
      keeps = late-keeps port s c.args.from c.args.seq task late;
      at = c.in_ok-note_late.ensures.lates port s c.args.seq task e at;
      asks = c.note_late.ensures.lanes.0;
      jobs = c.note_late.ensures.lanes.1;
    }

pub returns-clause-outcome : goal.returns-clause-outcome
returns-clause-outcome g c = λ port s task e at settled.
    handled-outcome c.args.self.now c.serve.new.self c.follow.new.self port s c.args.from c.args.seq task c.args.signal.now c.in_ok-served.served e at
    (ap (λ x. is_handled s c.args.from x) e ∙ (sym (c.handles.ensures port s at) ∙ c.if-not-handles.false))
    (c.in_ok-served.ensures.serves port s task e at settled) c.serve.ensures.rest.0 c.serve.ensures.rest.1 c.in_ok-follow.ensures.follows c.follow.ensures.state
    c.follow.ensures.same.events c.follow.ensures.same.jobs

pub returns-then-not-handles-clause-failed : goal.returns-then-not-handles-clause-failed
returns-then-not-handles-clause-failed g c = let rises = c.note_late.ensures.same.faults in omega (arith, rises)

pub returns-clause-failed : goal.returns-clause-failed
returns-clause-failed g c = risen-on _ _ _ _ c.in_ok-served.ensures.failed c.follow.ensures.same.faults

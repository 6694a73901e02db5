use Rattle.std.proofs.Common.{true, refl, sym, ap, ◌∙◌, subst, arith}
use Rattle.port_events.specs.port_history.Events.{told_of}
use Rattle.port_events.specs.port_history.Jobs.{done_by}
use Rattle.port_events.specs.port_history.Opening.{late_of}
use Rattle.port_events.specs.Table as table
use Rattle.port_events.specs.Table.{EventTable}
use Rattle.port_jobs.specs.Jobs as jobs
use Rattle.port_jobs.specs.Jobs.{JobsView}
use Rattle.port_state.specs.View.{StateView}
use Rattle.served_port.specs.View.{end_names}
use Rattle.served_port.proofs.Rows.{late-at}
use Rattle.served_port.proofs.Same.{on-ok, keeps-end}
use Rattle.served_port.proofs.served_port.ServedPort.note_late.Goals as goal

pub returns-clause-same : goal.returns-clause-same
returns-clause-same g c = rw (← c.self.view_is) (record {
  state = record {
    number = ap (λ (x : StateView). x.number) c.note_late.ensures.same;
    processes = c.note_late.ensures.processes;
    kind = ap (λ (x : StateView). x.service.kind) c.note_late.ensures.same;
  };
  faults = let e = ap (λ (x : StateView). x.service.faults) c.note_late.ensures.same in omega (arith);
  life = λ fresh. sym (ap (λ (x : StateView). x.service.stage) c.note_late.ensures.same) ∙ fresh;
  events = keeps-end c.self.inside.events c.note_late-2.new.self c.note_late-2.ensures.same;
  jobs = ap (λ (x : JobsView). x.port) c.note_done.ensures.same;
  pool = ap (λ (x : JobsView). end_names x.lanes) c.note_done.ensures.same;
})

pub returns-clause-lates : goal.returns-clause-lates
returns-clause-lates g c = rw (← c.self.view_is) (on-ok c.note_done.result (λ done port s seq task e at.
    let t = late_of c.args.from seq task in
    late-at _ _ port s t at (c.note_late.ensures.state port s t refl e at.state)
    (subst (λ x. table.Agrees c.note_late-2.new.self.selector (told_of true x s.events)) (sym e) (c.note_late-2.ensures.told s.events at.events))
    (ap (λ (x : EventTable). x.port) c.note_late-2.ensures.same)
    (subst (λ x. jobs.Agrees c.note_done.new.self s.jobs (done_by x s.done)) (sym e) (done s.jobs s.done at.jobs))
    (ap (λ (x : JobsView). x.port) c.note_done.ensures.same)) c.note_done.ensures.ok)

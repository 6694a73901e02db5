use Rattle.std.proofs.Common.{refl, sym, ap, ◌∙◌, subst}
use Rattle.port_jobs.specs.Jobs.{JobsView}
use Rattle.port_state.specs.View.{IsOpeningOf, IsStateOf, StateView}
use Rattle.port_events.specs.port_history.Opening.{Opening}
use Rattle.port_events.specs.port_history.State.{state_at_start}
use Rattle.port_driver.specs.driver_model.Drivers.{read_event_of, write_event_of}
use Rattle.served_port.proofs.Opened.{opened-at}
use Rattle.served_port.proofs.served_port.ServedPort.open.Goals as goal

pub returns-in-Ok-begin-clause-opened : goal.returns-in-Ok-begin-clause-opened
returns-in-Ok-begin-clause-opened g c = λ port is.
    let st = c.begin.ensures.state in
    let o = c.in-Ok.ensures.opened port (subst (λ x. IsOpeningOf c.args.place.number (g.D.Driver.kind c.args.driver) c.args.config.now c.args.place.owner c.args.place.processes x port) st is) in
    opened-at c.args.place.number c.begin.new.self c.args.ends port c.new.result c.new-2.result _
    (subst (λ x. IsStateOf x port (state_at_start port)) (sym st) o.0) (c.as_slice.ensures.items ∙ o.1) (sym is.number_is)
    c.in-Ok-begin.ensures.events c.new.ensures.none c.new.ensures.port c.new.ensures.asks c.begin.ensures.kept
    c.in-Ok-begin.ensures.jobs (ap (λ (x : JobsView). x.port) c.new-2.ensures.jobs) (ap (λ (x : JobsView). x.lanes) c.new-2.ensures.jobs) c.new-2.ensures.agrees

pub returns-clause-kind : goal.returns-clause-kind
returns-clause-kind g c =
    let own = c.in-Ok.opened.0.service.own in
    let port : Opening = record {
      number = c.args.place.number;
      processes = c.args.place.processes;
      kind = g.D.Driver.kind c.args.driver;
      config = c.args.config.now;
      owner = c.args.place.owner;
      read = read_event_of own;
      write = write_event_of own;
    } in
    let is : IsOpeningOf c.args.place.number (g.D.Driver.kind c.args.driver) c.args.config.now c.args.place.owner c.args.place.processes c.in-Ok.opened.0 port = record {
      number_is = refl;
      processes_is = refl;
      opening = record { kind_is = refl; config_is = refl; owner_is = refl; read_is = refl; write_is = refl };
    } in
    c.into_parts-driver.ensures.kind ∙ (c.end.ensures.same.kind ∙ (ap (λ (x : StateView). x.service.kind) c.begin.ensures.state ∙ (c.in-Ok.ensures.opened port is).0.kind))

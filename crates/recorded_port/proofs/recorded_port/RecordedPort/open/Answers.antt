use Rattle.std.proofs.Common.{refl, ap}
use Rattle.port_lanes.specs.port_history.Opening.{Opening}
use Rattle.served_port.specs.port_state.View.{IsOpeningOf}
use Rattle.recorded_port.proofs.Same.{same-opening}
use Rattle.recorded_port.proofs.Settled.{events-at-start, opened}
use Rattle.recorded_port.proofs.recorded_port.RecordedPort.open.Goals as goal

pub returns-clause-settled : goal.returns-clause-settled
returns-clause-settled g c =
    let place = c.args.place in
    let port : Opening = record {
      number = place.number;
      processes = place.processes;
      kind = g.D.Driver.kind c.args.parts.driver;
      config = c.args.parts.config;
      owner = place.owner;
      read = c.program_events-read.result.0;
      write = c.program_events-read.result.1;
    } in
    let is : IsOpeningOf place.number (g.D.Driver.kind c.args.parts.driver) c.args.parts.config place.owner place.processes c.in-Ok-open.port.state port = record {
      number_is = refl;
      processes_is = refl;
      opening = record { kind_is = refl; config_is = refl; owner_is = refl; read_is = c.program_events-read.ensures.read; write_is = c.program_events-read.ensures.write };
    } in
    let start = c.in-Ok-open.ensures.opened port is in
    opened _ port c.args.parts.outlets (same-opening port _ _ start.at.state.processes start.at.state.kind) c.in-Ok.ensures.rows start
    (ap (λ x. x.places) c.in-Ok.ensures.list) c.in-Ok.ensures.agrees refl refl c.requires.unused
    (events-at-start port _ _ _ start.at.state.stands c.program_events-read.ensures.read c.program_events-read.ensures.write)

pub returns-clause-opened : goal.returns-clause-opened
returns-clause-opened g c =
    let place = c.args.place in
    let port : Opening = record {
      number = place.number;
      processes = place.processes;
      kind = g.D.Driver.kind c.args.parts.driver;
      config = c.args.parts.config;
      owner = place.owner;
      read = c.program_events-read.result.0;
      write = c.program_events-read.result.1;
    } in
    let is : IsOpeningOf place.number (g.D.Driver.kind c.args.parts.driver) c.args.parts.config place.owner place.processes c.in-Ok-open.port.state port = record {
      number_is = refl;
      processes_is = refl;
      opening = record { kind_is = refl; config_is = refl; owner_is = refl; read_is = c.program_events-read.ensures.read; write_is = c.program_events-read.ensures.write };
    } in
    let start = c.in-Ok-open.ensures.opened port is in
    record {
      number = refl;
      processes = start.at.state.processes;
      kind_is = start.at.state.kind;
      config_is = refl;
      owner = refl;
      read = c.program_events-read.ensures.read;
      write = c.program_events-read.ensures.write;
      rows = c.in-Ok.ensures.rows;
      ends = refl;
      seat = refl;
      asks = start.end;
      pool = start.pool;
    }

use Rattle.std.proofs.Common.{refl, sym, ap, ◌∙◌, subst}
use Rattle.port_lanes.specs.port_history.Opening.{Opening}
use Rattle.served_port.specs.View.{ServedView, IsAt}
use Rattle.recorded_port.specs.View.{RecordedView, state_of}
use Rattle.recorded_port.proofs.Grown.{same-marked}
use Rattle.recorded_port.proofs.Same.{same-opening}
use Rattle.recorded_port.proofs.Settled.{can-mark}
use Rattle.recorded_port.proofs.TaskRows.{marked-row}
use Rattle.recorded_port.proofs.recorded_port.RecordedPort.write_next_mark.Goals as goal

pub write_mark-requires-clause-mark : goal.write_mark-requires-clause-mark
write_mark-requires-clause-mark g c =
    let old = c.args.self.now in
    let at = subst (λ (v : RecordedView). IsAt v.port old.opening (state_of old)) (sym c.self.view_is) c.requires.recorded.1.at in
    can-mark old _ c.in-Some.kind c.requires.recorded.0 c.requires.recorded.1 (c.in-Some.ensures.marks old.opening (state_of old) at).0 (ap (λ (v : RecordedView). v.seat) c.self.view_is)
    (ap (λ (v : RecordedView). v.rows) c.self.view_is)

pub returns-clause-next : goal.returns-clause-next
returns-clause-next g c = λ left recorded.
    let old = c.args.self.now in
    let kind = c.in-Some.kind in
    let at = subst (λ (v : RecordedView). IsAt v.port old.opening (state_of old)) (sym c.self.view_is) recorded.at in
    let marks = c.in-Some.ensures.marks old.opening (state_of old) at in
    let o : Opening = record {
      number = c.self.inside.fixed.number;
      processes = c.self.inside.port.state.links.processes;
      kind = c.self.inside.port.state.service.kind;
      config = c.self.inside.fixed.config;
      owner = c.self.inside.fixed.owner;
      read = c.self.inside.fixed.read;
      write = c.self.inside.fixed.write;
    } in
    let opening = same-opening o _ _ (ap (λ (x : ServedView). x.state.links.processes) c.next_mark.ensures.kept) (ap (λ (x : ServedView). x.state.service.kind) c.next_mark.ensures.kept)
    ∙ ap (λ (v : RecordedView). v.opening) c.self.view_is in
    let port = ap (λ (v : RecordedView). v.port) c.self.view_is in
    marked-row old _ c.write_mark.new.self c.next_mark.new.self kind left recorded marks.0 marks.1
    (ap (λ (x : ServedView). x.events) c.next_mark.ensures.kept ∙ ap (λ (x : ServedView). x.events) port)
    (ap (λ (x : ServedView). x.jobs) c.next_mark.ensures.kept ∙ ap (λ (x : ServedView). x.jobs) port)
    (record {
      opening = opening;
      rows = ap (λ (v : RecordedView). v.rows) c.self.view_is;
      room = ap (λ (v : RecordedView). v.room) c.self.view_is;
      port_is = refl;
      ends = ap (λ (v : RecordedView). v.ends) c.self.view_is;
      seat = ap (λ (v : RecordedView). v.seat) c.self.view_is;
      suspended = ap (λ (v : RecordedView). v.suspended) c.self.view_is;
    }) c.write_mark.ensures.written

pub returns-clause-same : goal.returns-clause-same
returns-clause-same g c =
    let o : Opening = record {
      number = c.self.inside.fixed.number;
      processes = c.self.inside.port.state.links.processes;
      kind = c.self.inside.port.state.service.kind;
      config = c.self.inside.fixed.config;
      owner = c.self.inside.fixed.owner;
      read = c.self.inside.fixed.read;
      write = c.self.inside.fixed.write;
    } in
    let opening = same-opening o _ _ (ap (λ (x : ServedView). x.state.links.processes) c.next_mark.ensures.kept) (ap (λ (x : ServedView). x.state.service.kind) c.next_mark.ensures.kept)
    ∙ ap (λ (v : RecordedView). v.opening) c.self.view_is in
    let port = ap (λ (v : RecordedView). v.port) c.self.view_is in
    same-marked c.args.self.now _ c.write_mark.new.self c.next_mark.new.self c.in-Some.kind
    (record {
      opening = opening;
      rows = ap (λ (v : RecordedView). v.rows) c.self.view_is;
      room = ap (λ (v : RecordedView). v.room) c.self.view_is;
      port_is = refl;
      ends = ap (λ (v : RecordedView). v.ends) c.self.view_is;
      seat = ap (λ (v : RecordedView). v.seat) c.self.view_is;
      suspended = ap (λ (v : RecordedView). v.suspended) c.self.view_is;
    })
    (c.next_mark.ensures.kept ∙ ap (λ (x : ServedView). record x { state = record x.state { busy = c.next_mark.new.self.state.busy; change = c.next_mark.new.self.state.change; closes = c.next_mark.new.self.state.closes } }) port)
    c.write_mark.ensures.written

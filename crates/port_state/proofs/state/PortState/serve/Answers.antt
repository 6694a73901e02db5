use Rattle.std.proofs.Common.{◌≡◌, ◌≤◌, false, length, is_some, ◌&&◌, refl, sym, ap, ◌∙◌, subst}
use Rattle.std.specs.Prelude.{not, if◌then◌else◌}
use Rattle.port_service.specs.port_driver.Faults.{failures, RisenBy}
use Rattle.port_mail.specs.port_links.port_history.Opening.{is_process, taken_of}
use Rattle.port_mail.specs.port_links.port_history.Mail.{closing_mail}
use Rattle.port_mail.specs.port_links.port_history.Service.{caller_of}
use Rattle.port_mail.specs.port_links.port_history.State.{closer_of, closing_reason}
use Rattle.port_mail.specs.port_links.port_history.Ties.{Ties, failure, signal_reason, tied, watched_by}
use Rattle.port_mail.specs.port_links.Table.{IsAmong}
use Rattle.port_service.specs.Callbacks.{is_flagged, is_told_of}
use Rattle.port_mail.specs.Rows.{IsHandling}
use Rattle.port_service.specs.Service.{ServiceView}
use Rattle.port_service.specs.Serves.{Served, Watches}
use Rattle.port_state.specs.View.{StateView}
use Rattle.port_state.specs.Served.{untied_for}
use Rattle.port_state.proofs.Rows.{served-state, has-effects, not-fresh, runs-of, served-as, flagged, stands-with}
use Rattle.port_state.proofs.state.PortState.serve.Goals as goal

pub returns-clause-same : goal.returns-clause-same
returns-clause-same g c = rw (← c.self.view_is) (
    let n = c.note_row.ensures.state c.self.inside.links.ties in
    record {
      number = ap (λ (x : StateView). x.number) n;
      processes = ap (λ (x : StateView). x.links.processes) n ∙ (c.untie.ensures.processes ∙ c.note_signal.ensures.processes);
      kind = ap (λ (x : StateView). x.service.kind) n ∙ c.handle.ensures.kind;
    })

pub returns-clause-faults : goal.returns-clause-faults
returns-clause-faults g c = rw (← c.self.view_is) (
    let n = c.note_row.ensures.state c.self.inside.links.ties in
    subst (λ x. c.self.inside.service.faults ≤ x) (sym (ap (λ (x : StateView). x.service.faults) n)) c.handle.ensures.faults)

pub returns-clause-failed : goal.returns-clause-failed
returns-clause-failed g c = rw (← c.self.view_is, c.note_row.ensures.row) (
    let n = c.note_row.ensures.state c.self.inside.links.ties in
    subst (λ x. RisenBy (failures c.in_ok-made.made.outside) c.self.inside.service.faults x) (sym (ap (λ (x : StateView). x.service.faults) n)) c.in_ok-made.ensures.failed)

pub returns-clause-life : goal.returns-clause-life
returns-clause-life g c =
    not-fresh c.in_ok-made.made.stops _ (ap (λ (x : StateView). x.service.stage) (c.note_row.ensures.state c.self.inside.links.ties) ∙ c.in_ok-made.ensures.stage)

pub returns-clause-serves : goal.returns-clause-serves
returns-clause-serves g c = rw (← c.self.view_is, c.note_row.ensures.row) (λ port s task e told none same.
    let made = c.in_ok-made.made in
    let from = c.caller-caller.ensures.from in
    let sig = c.args.signal.now in
    let n = c.note_row.ensures.state s.ties in
    let new = c.note_row.new.self in
    let t = taken_of c.args.from c.args.seq task made.outside made.effects in
    let started = ap (λ (x : StateView). x.service.stage) c.self.view_is ∙ c.requires.started in
    let runs : s.stopped ≡ false = runs-of s.stopped (sym started ∙ told.stage) in
    let served = subst (λ x. Served port s (taken_of x c.args.seq task made.outside made.effects) made.reason made.stops c.handle.new.self) from (c.in_ok-made.ensures.serves port s c.args.seq task (sym told.kind) e
    (record {
      process = c.caller-caller.ensures.process ∙ (ap (λ (x : Ties). caller_of x c.args.from) told.ties ∙ ap (λ x. caller_of s.ties x) (sym from));
      owns = c.caller-caller.ensures.owns ∙ (ap (λ (x : Ties). is_process x.owner c.args.from) told.ties ∙ ap (λ x. is_process s.ties.owner x) (sym from));
    })
    (c.reason_to_close-why.ensures ∙ (ap (λ (x : Ties). signal_reason x c.args.from sig) told.ties ∙ ap (λ x. signal_reason s.ties x sig) (sym from)))
    (served-as s c.is_some.result c.self.inside.reason c.is_some.ensures told.reason runs (told.served runs))
    (subst (λ x. is_flagged c.self.inside.service.watched x ≡ is_told_of s.watched x) (sym from)
    (flagged c.self.inside.service.watched s.watched c.args.from port.processes told.watches told.flags (subst (λ x. IsAmong x c.args.from) (ap (λ (x : StateView). x.links.processes) (sym c.self.view_is) ∙ told.processes) c.requires.among)))
    (stands-with port s.calls _ _ _ c.args.held.now _ told.stands same)) in
    let svc : new.service ≡ c.handle.new.self = ap (λ (x : StateView). x.service) n in
    let served' : Served port s t made.reason made.stops new.service = subst (λ (x : ServiceView). Served port s t made.reason made.stops x) (sym svc) served in
    let tied-now = c.in_ok-note_signal.ensures.ok port (sym told.processes) ∙ (ap (λ (x : Ties). tied port x c.args.from sig) told.ties ∙ ap (λ x. tied port s.ties c.args.from x) (sym e)) in
    let state = served-state port s t made.reason made.stops _ new told none runs served'
    (ap (λ (x : StateView). x.number) n)
    (ap (λ (x : StateView). x.links.processes) n ∙ (c.untie.ensures.processes ∙ c.note_signal.ensures.processes))
    (ap (λ (x : StateView). x.service.kind) n ∙ c.handle.ensures.kind)
    (ap (λ (x : StateView). x.service.stage) n ∙ c.in_ok-made.ensures.stage)
    (ap (λ (x : StateView). length x.service.watched) n ∙ c.handle.ensures.flags)
    (subst (λ (x : ServiceView). Watches x.watched (watched_by made.effects s.watched)) (sym svc) (c.in_ok-made.ensures.watches s.watched told.watches))
    (ap (λ (x : StateView). x.links.ties) n ∙ (c.in_ok-posts.ensures.ties ∙ ap (λ x. untied_for made.reason x) tied-now))
    (ap (λ (x : StateView). x.reason) n)
    (ap (λ (x : StateView). x.closer) n ∙ ap (λ x. if is_some made.reason && not (is_some (failure made.effects)) then closer_of s.ties c.args.from x else c.self.inside.closer) (sym e))
    (ap (λ (x : StateView). x.stopped) n)
    (ap (λ (x : StateView). x.busy) n)
    c.note_row.ensures.change
    (ap (λ (x : StateView). x.closes) n) in
    let h = c.new-handling.ensures in
    record {
      state = state;
      effects = has-effects port s t made.reason made.stops new.service served';
      effects_are = served'.serves.effects;
      closes = ap is_some served'.serves.closes;
      mail = record {
        before = subst (λ (x : Ties). IsHandling c.new-handling.result port x sig) told.ties (h.ties port (sym told.number) (sym told.processes));
        from = sym h.task.1;
        seq = sym h.task.2;
        signal = e;
        effects = refl;
        exits = c.in_ok-posts.ensures.posts
            ∙ (ap (λ x. closing_mail x made.reason c.note_signal.new.self.ties) told.number
            ∙ (ap (λ x. closing_mail port.number x c.note_signal.new.self.ties) served'.serves.closes
            ∙ ap (λ x. closing_mail port.number (closing_reason s t) x) tied-now));
        stops = served'.serves.stops_it;
        closer = state.closer;
      };
    })

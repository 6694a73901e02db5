use Rattle.std.proofs.Common.{◌≡◌, ◌++◌, is_some, sym, ap, ◌∙◌, subst}
use Rattle.std.specs.Prelude.{not}
use Rattle.port_events.specs.port_history.Events.{events_after}
use Rattle.port_events.specs.port_history.Jobs.{submitted_by}
use Rattle.port_events.specs.Asks.{asks_of}
use Rattle.port_events.specs.Table as table
use Rattle.port_events.specs.Table.{EventTable}
use Rattle.port_jobs.specs.Jobs as jobs
use Rattle.port_jobs.specs.Jobs.{JobsView}
use Rattle.served_port.specs.View.{ServedView}
use Rattle.served_port.specs.Outcomes.{SubmitsJobs}
use Rattle.served_port.proofs.Same.{on-ok, not-not}
use Rattle.served_port.proofs.served_port.ServedPort.follow.Goals as goal

pub returns-clause-follows : goal.returns-clause-follows
returns-clause-follows g c = rw (← c.self.view_is) (on-ok c.note_done.result (λ done.
    let sig = c.args.signal.now in
    let made = c.args.served.now in
    let reason = c.self.inside.state.reason in
    let closed : not c.is_open.result ≡ is_some reason = ap not c.is_open.ensures ∙ not-not (is_some reason) in
    let effects = c.as_slice-effects.ensures.items in
    let events : c.self-2.inside.events ≡ c.note_handled.new.self =
    ap (λ (x : ServedView). x.events) c.self-2.view_is ∙ (c.submit.ensures.same.1 ∙ ap (λ (x : ServedView). x.events) c.stop_selects.ensures.same) in
    let before : c.stop_selects.new.self.jobs ≡ c.self.inside.jobs = ap (λ (x : ServedView). x.jobs) c.stop_selects.ensures.same in
    let after : c.submit.new.self.jobs ≡ c.self-2.inside.jobs = ap (λ (x : ServedView). x.jobs) (sym c.self-2.view_is) in
    let lanes : c.note_done.new.self.lanes ≡ c.submit.new.self.jobs.lanes = ap (λ (x : JobsView). x.lanes) c.note_done.ensures.same ∙ ap (λ (x : JobsView). x.lanes) (sym after) in
    record {
      events = λ es a. subst (λ (x : EventTable). table.Agrees x.selector (events_after sig made.effects (is_some reason) made.closing.stops es)) (sym events)
          (subst (λ x. table.Agrees c.note_handled.new.self.selector (events_after sig made.effects x made.closing.stops es)) closed
          (subst (λ x. table.Agrees c.note_handled.new.self.selector (events_after sig x (not c.is_open.result) made.closing.stops es)) effects (c.in-Ok.ensures.events es a)));
      asks = λ es a. ap (λ (x : EventTable). x.asks.sent) events
          ∙ (c.in-Ok.ensures.asks es a
          ∙ (ap (λ x. c.self.inside.events.asks.sent ++ asks_of c.self.inside.events.port sig x (not c.is_open.result) made.closing.stops es) effects
          ∙ ap (λ x. c.self.inside.events.asks.sent ++ asks_of c.self.inside.events.port sig made.effects x made.closing.stops es) closed));
      submits = subst (λ x. SubmitsJobs c.self.inside.jobs.port made.effects c.self.inside.jobs.lanes x) (sym lanes)
          (subst (λ (x : JobsView). SubmitsJobs x.port made.effects x.lanes c.submit.new.self.jobs.lanes) before
          (subst (λ x. SubmitsJobs c.stop_selects.new.self.jobs.port x c.stop_selects.new.self.jobs.lanes c.submit.new.self.jobs.lanes) effects
          (record { jobs = c.in_ok-submit.ensures.ok.lanes.0; are = c.in_ok-submit.ensures.ok.lanes.1; submitted = c.in_ok-submit.ensures.ok.lanes.2 })));
      jobs = λ submitted told a. done (submitted ++ submitted_by made.effects) told
          (subst (λ x. jobs.Agrees x (submitted ++ submitted_by made.effects) told) after
          (subst (λ x. jobs.Agrees c.submit.new.self.jobs (submitted ++ submitted_by x) told) effects
          (c.in_ok-submit.ensures.ok.agrees submitted told (subst (λ x. jobs.Agrees x submitted told) (sym before) a))));
    }) c.note_done.ensures.ok)

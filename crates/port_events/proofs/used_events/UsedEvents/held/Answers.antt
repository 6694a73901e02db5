use Rattle.std.proofs.Common.{◌≡◌, not, length, sym, ap, ◌∙◌, subst, arith}
use Rattle.std.specs.Prelude.{filter}
use Rattle.std.proofs.lemmas.List.{take_all}
use Rattle.ready_select.specs.Sets.{Events, has}
use Rattle.port_events.proofs.Selected.{filter-kept, filter-passed}
use Rattle.port_events.proofs.used_events.UsedEvents.held.Goals as goal
use Rattle.port_events.proofs.used_events.UsedEvents.held.Goals.{then-not-is_waiting, else-not-is_waiting}

pub loop-event-init : goal.loop-event-init
loop-event-init c = record { items = c.new-held.ensures; few = omega (arith, ap length c.new-held.ensures) }

pub push-requires : goal.push-requires
push-requires c = omega (arith, c.loop-event.invariant.few, c.loop-event-test.true, c.held-event-items.ensures.few)

pub loop-event-preserved : goal.loop-event-preserved
loop-event-preserved c =
    elim c.if-not-is_waiting.branch [
      | then-not-is_waiting w ↦ record {
        items = ap (λ held. held.items) w.held-is ∙ (w.push.ensures.items
            ∙ filter-kept (λ event. not (has event c.self.inside.selector.waiting)) c.held-event-items.result.now c.loop-event.held.items c.loop-event.event-index
            c.loop-event-test.true (ap not (sym c.is_waiting.ensures ∙ w.if-not-is_waiting.true)) c.loop-event.invariant.items);
        few = omega (arith, ap (λ held. length held.items) w.held-is, w.push.ensures.len, c.loop-event.invariant.few);
      }
      | else-not-is_waiting w ↦ record {
        items = ap (λ held. held.items) w.held-is
            ∙ filter-passed (λ event. not (has event c.self.inside.selector.waiting)) c.held-event-items.result.now c.loop-event.held.items c.loop-event.event-index
            c.loop-event-test.true (ap not (sym c.is_waiting.ensures ∙ w.if-not-is_waiting.false)) c.loop-event.invariant.items;
        few = omega (arith, ap (λ held. length held.items) w.held-is, c.loop-event.invariant.few);
      }
    ]

pub returns-clause-value : goal.returns-clause-value
returns-clause-value c =
    subst (λ (s : Events). c.loop-event.held.items ≡ filter (λ event. not (has event s.waiting)) s.listed) c.self.view_is
    (c.loop-event.invariant.items
    ∙ ap (filter (λ event. not (has event c.self.inside.selector.waiting))) (take_all c.loop-event.event-index c.held-event-items.result.now c.loop-event-test.false ∙ c.held-event-items.ensures.value))

use Rattle.std.proofs.Common.{sym, ◌∙◌, ap}
use Rattle.port_history.specs.Events.{give_up}
use Rattle.port_events.specs.Table.{EventTable}
use Rattle.port_events.specs.Asks.{drop_asks}
use Rattle.port_events.specs.Parts.{one, back_now}
use Rattle.port_events.proofs.Single.{gave-now, gave-waits, gave-drop, as-seen}
use Rattle.port_events.proofs.port_events.PortEvents.give_up.Goals as goal

pub returns-in_ok-push-in-Now-clause-ok : goal.returns-in_ok-push-in-Now-clause-ok
returns-in_ok-push-in-Now-clause-ok g c =
    as-seen (λ t. one give_up (drop_asks t.port) back_now c.args.event) _ _ _ _ _ c.self.view_is
    (gave-now _ _ _ c.give_up.ensures.given_up _ c.give_up.ensures.answer c.in-Now.is _ _ c.in_ok-push-in-Now.ensures.items)

pub returns-in-Later-clause-ok : goal.returns-in-Later-clause-ok
returns-in-Later-clause-ok g c =
    as-seen (λ t. one give_up (drop_asks t.port) back_now c.args.event) _ _ _ _ _ c.self.view_is
    (gave-waits _ _ _ c.give_up.ensures.given_up _ c.give_up.ensures.answer c.in-Later.is (sym c.is_waiting-waits.ensures ∙ c.if-waits.true) _)

pub returns-in_ok-ask-in-Later-2-clause-ok : goal.returns-in_ok-ask-in-Later-2-clause-ok
returns-in_ok-ask-in-Later-2-clause-ok g c =
    as-seen (λ t. one give_up (drop_asks t.port) back_now c.args.event) _ _ _ _ _ c.self.view_is
    (gave-drop _ _ _ c.give_up.ensures.given_up _ c.give_up.ensures.answer c.in-Later.is (sym c.is_waiting-waits.ensures ∙ c.if-waits.false)
    _ (c.port.ensures ∙ ap (λ (t : EventTable). t.port) (sym c.self.view_is)) _ c.in_ok-ask-in-Later-2.ensures.put _)

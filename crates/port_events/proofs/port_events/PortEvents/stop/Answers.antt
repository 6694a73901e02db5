use Rattle.std.proofs.Common.{sym, subst, ◌∙◌}
use Rattle.port_history.specs.Events.{give_up}
use Rattle.port_events.specs.Asks.{drop_asks}
use Rattle.port_events.specs.Parts.{IsDone, each, one, back_now, stopping}
use Rattle.port_events.proofs.AllHeld.{stopped-all}
use Rattle.port_events.proofs.Handling.{then-ok}
use Rattle.port_events.proofs.port_events.PortEvents.stop.Goals as goal

pub returns-clause-ok : goal.returns-clause-ok
returns-clause-ok g c = then-ok c.give_up_each.result (λ does events a.
    subst (λ b. IsDone (stopping c.args.self.now.port b) events c.args.self.now c.give_up_each.new.self c.args.given_back.now.items c.give_up_each.new.given_back.items) (sym c.if-not-stops.false)
    (stopped-all c.args.self.now.port events c.args.self.now c.give_up_each.new.self c.args.given_back.now.items c.give_up_each.new.given_back.items a
    (subst (λ ns. IsDone (each (one give_up (drop_asks c.args.self.now.port) back_now) ns) events c.args.self.now c.give_up_each.new.self c.args.given_back.now.items c.give_up_each.new.given_back.items)
    (c.as_slice.ensures.value ∙ c.held-held.ensures events a) (does events a)))) c.give_up_each.ensures.ok

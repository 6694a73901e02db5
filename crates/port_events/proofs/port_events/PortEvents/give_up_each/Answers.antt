use Rattle.std.proofs.Common.{refl, subst, get_or}
use Rattle.port_history.specs.Events.{give_up}
use Rattle.port_events.specs.Asks.{drop_asks}
use Rattle.port_events.specs.Parts.{Does, one, back_now}
use Rattle.port_events.proofs.Parts.{midway-start, midway-next, each-at, each-done, keeps-none, keeps-then, same-port}
use Rattle.port_events.proofs.port_events.PortEvents.give_up_each.Goals as goal

pub loop-event-init : goal.loop-event-init
loop-event-init g c = record { midway = midway-start _ _ _; same = keeps-none c.args.self.now c.args.self.now refl }

pub loop-event-preserved : goal.loop-event-preserved
loop-event-preserved g c = record {
  midway = midway-next _ _ _ _ c.args.self.now c.loop-event.self c.give_up.new.self _ _ _ c.loop-event.invariant.midway
      (each-at give_up (drop_asks c.args.self.now.port) back_now c.args.events.now c.loop-event.event-index c.loop-event-test.true)
      (subst (λ port. Does (one give_up (drop_asks port) back_now (get_or c.args.events.now c.loop-event.event-index 0)) c.loop-event.self c.give_up.new.self c.loop-event.given_back.items c.give_up.new.given_back.items)
      (same-port c.args.self.now c.loop-event.self c.loop-event.invariant.same) c.in_ok-give_up.ensures.ok);
  same = keeps-then c.args.self.now c.loop-event.self c.give_up.new.self c.loop-event.invariant.same c.give_up.ensures.same;
}

pub returns-in_err-give_up-clause-same : goal.returns-in_err-give_up-clause-same
returns-in_err-give_up-clause-same g c = keeps-then c.args.self.now c.loop-event.self c.give_up.new.self c.loop-event.invariant.same c.give_up.ensures.same

pub returns-clause-ok : goal.returns-clause-ok
returns-clause-ok g c = each-done give_up (drop_asks c.args.self.now.port) back_now c.args.events.now c.loop-event.event-index _ c.args.self.now c.loop-event.self _ _ c.loop-event-test.false c.loop-event.invariant.midway

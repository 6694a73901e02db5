use Rattle.std.proofs.Common.{[], refl, subst, get_or}
use Rattle.port_history.specs.Events.{arm}
use Rattle.port_events.specs.Asks.{arm_asks}
use Rattle.port_events.specs.Parts.{Does, one, none}
use Rattle.port_events.proofs.Parts.{midway-start, midway-next, each-at, each-done, keeps-none, keeps-then, same-port}
use Rattle.port_events.proofs.port_events.PortEvents.arm_each.Goals as goal

pub loop-event-init : goal.loop-event-init
loop-event-init g c = record { midway = midway-start _ _ _; same = keeps-none c.args.self.now c.args.self.now refl }

pub loop-event-preserved : goal.loop-event-preserved
loop-event-preserved g c = record {
  midway = midway-next _ _ _ _ c.args.self.now c.loop-event.self c.arm.new.self _ _ _ c.loop-event.invariant.midway
      (each-at arm (arm_asks c.args.self.now.port) none c.args.events.now c.loop-event.event-index c.loop-event-test.true)
      (subst (λ port. Does (one arm (arm_asks port) none (get_or c.args.events.now c.loop-event.event-index 0)) c.loop-event.self c.arm.new.self [] []) (same-port c.args.self.now c.loop-event.self c.loop-event.invariant.same) c.in_ok-arm.ensures.ok);
  same = keeps-then c.args.self.now c.loop-event.self c.arm.new.self c.loop-event.invariant.same c.arm.ensures.same;
}

pub returns-in_err-arm-clause-same : goal.returns-in_err-arm-clause-same
returns-in_err-arm-clause-same g c = keeps-then c.args.self.now c.loop-event.self c.arm.new.self c.loop-event.invariant.same c.arm.ensures.same

pub returns-clause-ok : goal.returns-clause-ok
returns-clause-ok g c = each-done arm (arm_asks c.args.self.now.port) none c.args.events.now c.loop-event.event-index _ c.args.self.now c.loop-event.self _ _ c.loop-event-test.false c.loop-event.invariant.midway

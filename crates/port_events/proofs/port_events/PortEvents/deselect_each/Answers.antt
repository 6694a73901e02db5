use Rattle.std.proofs.Common.{refl}
use Rattle.port_history.specs.Events.{read_no_more}
use Rattle.port_events.specs.Parts.{none}
use Rattle.port_events.proofs.Parts.{midway-start, midway-next, each-at, each-done, keeps-none, keeps-then}
use Rattle.port_events.proofs.port_events.PortEvents.deselect_each.Goals as goal

pub loop-event-init : goal.loop-event-init
loop-event-init c = record { midway = midway-start _ _ _; same = keeps-none c.args.self.now c.args.self.now refl }

pub loop-event-preserved : goal.loop-event-preserved
loop-event-preserved c = record {
  midway = midway-next _ _ _ _ c.args.self.now c.loop-event.self c.read_no_more.new.self _ _ _ c.loop-event.invariant.midway
      (each-at read_no_more none none c.args.events.now c.loop-event.event-index c.loop-event-test.true) c.read_no_more.ensures.done;
  same = keeps-then c.args.self.now c.loop-event.self c.read_no_more.new.self c.loop-event.invariant.same c.read_no_more.ensures.same;
}

pub returns-clause-done : goal.returns-clause-done
returns-clause-done c = each-done read_no_more none none c.args.events.now c.loop-event.event-index _ c.args.self.now c.loop-event.self _ _ c.loop-event-test.false c.loop-event.invariant.midway

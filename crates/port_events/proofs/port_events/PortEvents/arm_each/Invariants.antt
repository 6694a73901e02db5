use Rattle.std.proofs.Common.{[], drop}
use Rattle.port_history.specs.Events.{arm}
use Rattle.port_events.specs.Table.{KeepsEnd}
use Rattle.port_events.specs.Asks.{arm_asks}
use Rattle.port_events.specs.Parts.{each, one, none}
use Rattle.port_events.proofs.Parts.{Midway}
use Rattle.port_events.proofs.port_events.PortEvents.arm_each.Given as goal

abbrev pub invariant-loop-event : goal.invariant-loop-event
invariant-loop-event g l = record {
  midway : Midway (each (one arm (arm_asks l.fn.self.port) none) l.events) (each (one arm (arm_asks l.fn.self.port) none) (drop l.event-index l.events)) l.fn.self l.self [] [];
  same : KeepsEnd l.fn.self l.self;
}

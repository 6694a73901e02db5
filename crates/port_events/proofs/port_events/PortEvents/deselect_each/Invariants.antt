use Rattle.std.proofs.Common.{[], drop}
use Rattle.port_history.specs.Events.{read_no_more}
use Rattle.port_events.specs.Table.{KeepsEnd}
use Rattle.port_events.specs.Parts.{each, one, none}
use Rattle.port_events.proofs.Parts.{Midway}
use Rattle.port_events.proofs.port_events.PortEvents.deselect_each.Given as goal

abbrev pub invariant-loop-event : goal.invariant-loop-event
invariant-loop-event l = record {
  midway : Midway (each (one read_no_more none none) l.events) (each (one read_no_more none none) (drop l.event-index l.events)) l.fn.self l.self [] [];
  same : KeepsEnd l.fn.self l.self;
}

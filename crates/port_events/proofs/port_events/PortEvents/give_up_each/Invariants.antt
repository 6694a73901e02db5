use Rattle.std.proofs.Common.{drop}
use Rattle.port_history.specs.Events.{give_up}
use Rattle.port_events.specs.Table.{KeepsEnd}
use Rattle.port_events.specs.Asks.{drop_asks}
use Rattle.port_events.specs.Parts.{each, one, back_now}
use Rattle.port_events.proofs.Parts.{Midway}
use Rattle.port_events.proofs.port_events.PortEvents.give_up_each.Given as goal

abbrev pub invariant-loop-event : goal.invariant-loop-event
invariant-loop-event g l = record {
  midway : Midway (each (one give_up (drop_asks l.fn.self.port) back_now) l.events) (each (one give_up (drop_asks l.fn.self.port) back_now) (drop l.event-index l.events)) l.fn.self l.self l.initial.given_back.items l.given_back.items;
  same : KeepsEnd l.fn.self l.self;
}

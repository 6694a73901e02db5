use Rattle.std.proofs.Common.{◌≡◌, ◌≤◌, not, length, take}
use Rattle.std.specs.Prelude.{filter}
use Rattle.ready_select.specs.Sets.{has}
use Rattle.port_events.proofs.used_events.UsedEvents.held.Given as goal

abbrev pub invariant-loop-event : goal.invariant-loop-event
invariant-loop-event l = record {
  items : l.held.items ≡ filter (λ event. not (has event l.self-inside.selector.waiting)) (take l.event-index l.event-items);
  few : length l.held.items ≤ l.event-index;
}

use Rattle.std.proofs.Common.{◌≡◌, List, drop}
use Rattle.port_history.specs.Events.{Event, selected_by}
use Rattle.history_tables.specs.EventsKept.{Holds}
use Rattle.history_tables.proofs.events.EventTable.follow.Given as goal

-- the table has what the effects so far select, and the rest selects the rest
abbrev pub invariant-loop-effect : goal.invariant-loop-effect
invariant-loop-effect l = record {
  holds : (events : List Event) → Holds l.initial.self events → (now : List Event) × (Holds l.self now × (selected_by (drop l.effect-index l.effects) now ≡ selected_by l.effects events));
}

use Rattle.std.proofs.Common.{◌≡◌, ◌<◌, ℕ, List, get_or, true}
use Rattle.port_history.specs.Events.{Event, event_of}
use Rattle.port_history.specs.Laws.{is_given_back}
use Rattle.history_tables.specs.declared.events.EventState.{EventState}
use Rattle.history_tables.specs.EventsKept.{Holds}
use Rattle.history_tables.proofs.events.EventTable.are_given_back.Given as goal

-- each event so far is given back
abbrev pub invariant-loop-i : goal.invariant-loop-i
invariant-loop-i l = record {
  given : (events : List Event) (d : EventState) → Holds l.self events → (k : ℕ) → k < l.i → is_given_back (event_of (get_or l.self.used.items k d).number events) ≡ true;
}

-- The events of a driver, as a table keeps them.
use Rattle.std.specs.Prelude.{◌≡◌, ℕ, ◌<◌, ◌&&◌, ◌||◌, not, Bool, false, List, [], ◌∷◌, map}
use Rattle.std.specs.List.{AllByRecursion}
use Rattle.port_history.specs.Events.{Event, event_of, numbers, read_no_more, arm, give_up}
use Rattle.history_tables.specs.declared.events.EventState.{EventState}
use Rattle.history_tables.specs.declared.events.Sweep.{Sweep}
use Rattle.history_tables.specs.declared.events.Sweep.TheVariants.{Deselect, Arm, GiveUp}
use Rattle.history_tables.specs.declared.events.EventTable.{EventTable}

abbrev pub event_in : EventState → Event
event_in e = record {
  number = e.number;
  held = e.held;
  waits = e.waits;
  reads = e.reads;
  writes = e.writes;
  armed_to_read = e.armed_to_read;
  armed_to_write = e.armed_to_write;
}

abbrev pub swept : Sweep → Event → Event
swept Deselect e = read_no_more e
swept Arm e = arm e
swept GiveUp e = give_up e

-- the same of what is kept of an event
abbrev pub swept_state : Sweep → EventState → EventState
swept_state Deselect e = record e { reads = false }
swept_state Arm e = record e { armed_to_read = e.armed_to_read || e.reads; armed_to_write = e.armed_to_write || e.writes }
swept_state GiveUp e = record e { held = false; waits = e.waits || (e.held && (e.armed_to_read || e.armed_to_write)); reads = false; writes = false }

-- it is as an event that was never used
abbrev pub is_at_rest : Event → Bool
is_at_rest e = not e.held && not e.waits && not e.reads && not e.writes && not e.armed_to_read && not e.armed_to_write

abbrev pub KeepsNumber : (Event → Event) → Type 0
KeepsNumber how = (e : Event) → (how e).number ≡ e.number

-- each number is below those after it
abbrev pub Rising : List ℕ → Type 0
Rising [] = Unit {0}
Rising (n ∷ ns) = AllByRecursion (λ m. n < m) ns × Rising ns

-- the table tells of each event what these events of a history do, which stand by rising number
pub record Holds (table : EventTable) (events : List Event) : Type 0 where
  pub rising : Rising (numbers events)
  pub each : (n : ℕ) → event_of n (map event_in table.used.items) ≡ event_of n events

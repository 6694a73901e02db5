-- The parts of a row, as they are done to the events of a port one after another.
use Rattle.std.specs.Prelude.{◌≡◌, ℕ, Bool, true, false, ◌||◌, ◌&&◌, not, if◌then◌else◌, List, [], ◌∷◌, ◌++◌, map}
use Rattle.std.specs.List.{flat_map}
use Rattle.port_model.specs.declared.event.Dir.{Dir}
use Rattle.port_model.specs.declared.event.Dir.TheVariants.{Read, Write}
use Rattle.port_model.specs.declared.effect.Effect.{Effect}
use Rattle.port_history.specs.Events.{Event, change, event_of, is_armed, given_up, selected_by, arm, stopped_by, left_by, deselected, is_selected, is_armed_in}
use Rattle.ready_select.specs.declared.ask.PollAsk.{PollAsk}
use Rattle.ready_select.specs.declared.ask.PollAsk.TheVariants.{Arm}
use Rattle.port_events.specs.Table.{EventTable, Agrees}
use Rattle.port_events.specs.Asks.{arm_asks, given_up_asks, stop_asks, has_room}

-- What a part of a row does to the events: those after it, what it asks of the poller, the events for which `stop_select` is called, and
-- whether they find room
pub record Part : Type 0 where
  pub after : List Event → List Event
  pub asks : List Event → List PollAsk
  pub given_back : List Event → List ℕ
  pub room : List Event → Bool

-- the part was done to these events, and what it gives back was added to a list
pub record IsDone (part : Part) (events : List Event) (old new : EventTable) (before after : List ℕ) : Type 0 where
  pub agrees : Agrees new.selector (part.after events)
  pub asked : new.asks.sent ≡ old.asks.sent ++ part.asks events
  pub given_back : after ≡ before ++ part.given_back events
  pub room : part.room events ≡ true

abbrev pub Does : Part → EventTable → EventTable → List ℕ → List ℕ → Type 0
Does part old new before after = (events : List Event) → Agrees old.selector events → IsDone part events old new before after

-- the events don't find room for the part
abbrev pub HasNoRoom : Part → EventTable → Type 0
HasNoRoom part old = (events : List Event) → Agrees old.selector events → part.room events ≡ false

-- the effects of a callback
abbrev pub following : ℕ → List Effect → Part
following port effects = record {
  after = selected_by effects;
  asks = given_up_asks port effects;
  given_back = given_up effects;
  room = has_room effects;
}

-- the effects of a start that gives no event up, after which each selected event is armed
abbrev pub starting : ℕ → List Effect → Part
starting port effects = record {
  after = λ events. map arm (selected_by effects events);
  asks = λ events. flat_map (arm_asks port) (selected_by effects events);
  given_back = λ events. [];
  room = has_room effects;
}

-- nothing is selected for reading any more, where the port is closed
abbrev pub closing : Bool → Part
closing closed = record { after = deselected closed; asks = λ events. []; given_back = λ events. []; room = λ events. true }

-- each selected event is armed
abbrev pub arming : ℕ → Part
arming port = record { after = map arm; asks = flat_map (arm_asks port); given_back = λ events. []; room = λ events. true }

-- the events are given up, where the driver is stopped
abbrev pub stopping : ℕ → Bool → Part
stopping port stops = record {
  after = stopped_by stops;
  asks = stop_asks port stops;
  given_back = left_by stops;
  room = λ events. true;
}

-- the event of this number is changed so, with what is asked and given back of it
abbrev pub one : (Event → Event) → (Event → List PollAsk) → (Event → List ℕ) → ℕ → Part
one how asks given_back n = record {
  after = change n how;
  asks = λ events. asks (event_of n events);
  given_back = λ events. given_back (event_of n events);
  room = λ events. true;
}

abbrev pub arm_in : Dir → Event → Event
arm_in Read e = record e { armed_to_read = e.armed_to_read || e.reads }
arm_in Write e = record e { armed_to_write = e.armed_to_write || e.writes }

abbrev pub arm_in_asks : Dir → ℕ → Event → List PollAsk
arm_in_asks dir port e = if is_selected dir e && not (is_armed_in dir e) then Arm port e.number dir ∷ [] else []

abbrev pub none : {X : Type 0} → Event → List X
none e = []

-- `stop_select` is called where the event isn't armed
abbrev pub back_now : Event → List ℕ
back_now e = if is_armed e then [] else e.number ∷ []

-- one part after another, for each of these numbers
abbrev pub each : (ℕ → Part) → List ℕ → Part
each part [] = record { after = λ events. events; asks = λ events. []; given_back = λ events. []; room = λ events. true }
each part (n ∷ ns) = record {
  after = λ events. (each part ns).after ((part n).after events);
  asks = λ events. (part n).asks events ++ (each part ns).asks ((part n).after events);
  given_back = λ events. (part n).given_back events ++ (each part ns).given_back ((part n).after events);
  room = λ events. true;
}

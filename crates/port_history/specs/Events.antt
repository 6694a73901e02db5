-- The events of a driver. An event is held from its first selection until it is given up, at the latest where the driver is stopped. It is
-- selected in a direction as the last selection says, and armed there from then on until its Ready row; an event that is given up while it
-- is armed waits for the poller to drop it.
use Rattle.std.specs.Prelude.{ℕ, ◌==◌, List, [], ◌∷◌, ◌++◌, Bool, true, false, ◌&&◌, ◌||◌, not, nat_lt, if◌then◌else◌, map, filter}
use Rattle.driver_model.specs.port_model.declared.event.Dir.{Dir}
use Rattle.driver_model.specs.port_model.declared.event.Dir.TheVariants.{Read, Write}
use Rattle.driver_model.specs.port_model.declared.signal.Signal.{Signal}
use Rattle.driver_model.specs.port_model.declared.signal.Signal.TheVariants.{Ready, Dropped}
use Rattle.driver_model.specs.port_model.declared.effect.Effect.{Effect}
use Rattle.driver_model.specs.port_model.declared.effect.Effect.TheVariants.{Select, Unuse}

pub record Event : Type 0 where
  pub number : ℕ
  pub held : Bool
  pub waits : Bool
  pub reads : Bool
  pub writes : Bool
  pub armed_to_read : Bool
  pub armed_to_write : Bool

-- an event that was never used
abbrev pub unused : ℕ → Event
unused number = record { number = number; held = false; waits = false; reads = false; writes = false; armed_to_read = false; armed_to_write = false }

-- the event of this number, among these in rising order, changed so; one that isn't there was never used
abbrev pub change : ℕ → (Event → Event) → List Event → List Event
change number how [] = how (unused number) ∷ []
change number how (e ∷ events) =
    if nat_lt number e.number then how (unused number) ∷ e ∷ events
    else (if e.number == number then how e ∷ events else e ∷ change number how events)

-- the event of this number
abbrev pub event_of : ℕ → List Event → Event
event_of number [] = unused number
event_of number (e ∷ events) = if e.number == number then e else event_of number events

abbrev pub is_selected : Dir → Event → Bool
is_selected Read e = e.reads
is_selected Write e = e.writes

abbrev pub is_armed_in : Dir → Event → Bool
is_armed_in Read e = e.armed_to_read
is_armed_in Write e = e.armed_to_write

-- armed in either direction
abbrev pub is_armed : Event → Bool
is_armed e = e.armed_to_read || e.armed_to_write

abbrev pub select : Dir → Bool → Event → Event
select Read on e = record e { held = true; reads = on }
select Write on e = record e { held = true; writes = on }

abbrev pub disarm : Dir → Event → Event
disarm Read e = record e { armed_to_read = false }
disarm Write e = record e { armed_to_write = false }

-- the driver gives the event up: where it is armed it waits for the poller
abbrev pub give_up : Event → Event
give_up e = record e { held = false; waits = e.waits || (e.held && is_armed e); reads = false; writes = false }

-- the poller has dropped the event
abbrev pub drop_event : Event → Event
drop_event e = record e { waits = false; armed_to_read = false; armed_to_write = false }

-- a task disarms its event first, and a dropped event waits no more
abbrev pub told_of : Bool → Signal → List Event → List Event
told_of late (Ready event dir) events = change event (disarm dir) events
told_of false (Dropped event) events = change event drop_event events
told_of late signal events = events

-- the selections of a callback, in their order
abbrev pub selected_by : List Effect → List Event → List Event
selected_by [] events = events
selected_by (Select event dir on ∷ effects) events = selected_by effects (change event (select dir on) events)
selected_by (Unuse event ∷ effects) events = selected_by effects (change event give_up events)
selected_by (effect ∷ effects) events = selected_by effects events

abbrev pub read_no_more : Event → Event
read_no_more e = record e { reads = false }

-- from the closing row on no event is selected for reading
abbrev pub deselected : Bool → List Event → List Event
deselected true events = map read_no_more events
deselected false events = events

-- after a callback each event is armed where it is selected
abbrev pub arm : Event → Event
arm e = record e { armed_to_read = e.armed_to_read || e.reads; armed_to_write = e.armed_to_write || e.writes }

-- where the driver is stopped each event is given up
abbrev pub stopped_by : Bool → List Event → List Event
stopped_by true events = map give_up events
stopped_by false events = events

-- the events after a handled task: of the signal, the effects, whether the port is closed, and whether the driver is stopped in its row
abbrev pub events_after : Signal → List Effect → Bool → Bool → List Event → List Event
events_after signal effects closed stops events =
    stopped_by stops (map arm (deselected closed (selected_by effects (told_of false signal events))))

-- The calls of `stop_select`: an event that is given up while it isn't armed, and one that was dropped.

abbrev pub numbers : List Event → List ℕ
numbers events = map (λ e. e.number) events

abbrev pub given_up : List Effect → List Event → List ℕ
given_up [] events = []
given_up (Select event dir on ∷ effects) events = given_up effects (change event (select dir on) events)
given_up (Unuse event ∷ effects) events =
    (if is_armed (event_of event events) then [] else event ∷ []) ++ given_up effects (change event give_up events)
given_up (effect ∷ effects) events = given_up effects events

abbrev pub dropped_by : Signal → List ℕ
dropped_by (Dropped event) = event ∷ []
dropped_by signal = []

-- those that are held and aren't armed where the driver is stopped, by rising number
abbrev pub left_by : Bool → List Event → List ℕ
left_by true events = numbers (filter (λ e. e.held && not (is_armed e)) events)
left_by false events = []

-- the events for which a handled task's row calls `stop_select`, in their order
abbrev pub given_back : Signal → List Effect → Bool → Bool → List Event → List ℕ
given_back signal effects closed stops events =
    dropped_by signal ++ given_up effects (told_of false signal events)
    ++ left_by stops (map arm (deselected closed (selected_by effects (told_of false signal events))))

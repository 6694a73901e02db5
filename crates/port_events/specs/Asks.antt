-- What the rows of a port ask of the poller, and whether its driver's events find room.
use Rattle.std.specs.Prelude.{ℕ, List, [], ◌∷◌, ◌++◌, Bool, true, false, ◌&&◌, ◌||◌, not, nat_le, if◌then◌else◌, map, count_by}
use Rattle.std.specs.List.{flat_map, list_any}
use Rattle.port_model.specs.declared.event.Dir.TheVariants.{Read, Write}
use Rattle.port_model.specs.declared.signal.Signal.{Signal}
use Rattle.port_model.specs.declared.effect.Effect.{Effect}
use Rattle.port_model.specs.declared.effect.Effect.TheVariants.{Select, Unuse}
use Rattle.port_history.specs.Events.{Event, change, event_of, is_armed, select, give_up, told_of, selected_by, deselected, arm}
use Rattle.ready_select.specs.declared.ask.PollAsk.{PollAsk}
use Rattle.ready_select.specs.declared.ask.PollAsk.TheVariants.{Arm, Drop}
use Rattle.port_events.specs.declared.fault.EventFault.{EventFault}
use Rattle.port_events.specs.declared.fault.EventFault.TheVariants as events
use Rattle.port_events.specs.declared.fault.StartFault.{StartFault}
use Rattle.port_events.specs.declared.fault.StartFault.TheVariants as start

-- an event that is selected and not armed becomes armed, to read and then to write
abbrev pub arm_asks : ℕ → Event → List PollAsk
arm_asks port e =
    (if e.reads && not e.armed_to_read then Arm port e.number Read ∷ [] else [])
    ++ (if e.writes && not e.armed_to_write then Arm port e.number Write ∷ [] else [])

-- an event that is given up while it is armed is dropped
abbrev pub drop_asks : ℕ → Event → List PollAsk
drop_asks port e = if e.held && is_armed e then Drop port e.number ∷ [] else []

-- what is asked of the events that a callback gives up, in the order of its effects
abbrev pub given_up_asks : ℕ → List Effect → List Event → List PollAsk
given_up_asks port [] events = []
given_up_asks port (Select event dir on ∷ effects) events = given_up_asks port effects (change event (select dir on) events)
given_up_asks port (Unuse event ∷ effects) events =
    drop_asks port (event_of event events) ++ given_up_asks port effects (change event give_up events)
given_up_asks port (effect ∷ effects) events = given_up_asks port effects events

-- what is asked where the driver is stopped, by rising number
abbrev pub stop_asks : ℕ → Bool → List Event → List PollAsk
stop_asks port true events = flat_map (drop_asks port) events
stop_asks port false events = []

-- what the row of a handled task asks of the poller: of the events that its callback gives up, then of those that become armed, and where
-- the driver is stopped of those that are left
abbrev pub asks_of : ℕ → Signal → List Effect → Bool → Bool → List Event → List PollAsk
asks_of port signal effects closed stops events =
    given_up_asks port effects (told_of false signal events)
    ++ flat_map (arm_asks port) (deselected closed (selected_by effects (told_of false signal events)))
    ++ stop_asks port stops (map arm (deselected closed (selected_by effects (told_of false signal events))))

-- the event is held or waits
abbrev pub is_used : Event → Bool
is_used e = e.held || e.waits

-- each selection of a callback is of an event that doesn't wait, and at most 64 events are held or wait after it
abbrev pub has_room : List Effect → List Event → Bool
has_room [] events = true
has_room (Select event dir on ∷ effects) events =
    (not (event_of event events).waits && nat_le (count_by is_used (change event (select dir on) events)) 64)
    && has_room effects (change event (select dir on) events)
has_room (Unuse event ∷ effects) events = has_room effects (change event give_up events)
has_room (effect ∷ effects) events = has_room effects events

abbrev pub is_unuse : Effect → Bool
is_unuse (Unuse event) = true
is_unuse effect = false

-- a callback gives an event up
abbrev pub gives_up : List Effect → Bool
gives_up effects = list_any is_unuse effects

-- a fault of the effects, as it is told of a start
abbrev pub start_fault : EventFault → StartFault
start_fault events.NoMemory = start.NoMemory
start_fault events.NoRoom = start.NoRoom

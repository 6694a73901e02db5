-- What contracts see of the events of a port, and how they stand to those that a history tells of.
use Rattle.std.specs.Prelude.{◌≡◌, ℕ, Bool, true, false, ◌&&◌, ◌||◌, List, [], filter}
use Rattle.std.specs.List.Sorted.{IsStrictlyIncreasing}
use Rattle.task_queue.specs.Ends.{Sending}
use Rattle.port_model.specs.declared.event.Dir.{Dir}
use Rattle.port_history.specs.Events.{Event, event_of, numbers, is_selected, is_armed_in, change}
use Rattle.ready_select.specs.declared.ask.PollAsk.{PollAsk}
use Rattle.ready_select.specs.Sets.{Events, has, in_dir}
use Rattle.ready_select.specs.Events.{Call, IsAfter}

-- the number of the port, the events of its driver, and the port's end in the poller's lane of asks
pub record EventTable : Type 0 where
  pub port : ℕ
  pub selector : Events
  pub asks : Sending PollAsk (Unit {0})

-- An event that waits isn't held; one that is selected is held, and one that is armed is held or waits
pub record IsLawful (e : Event) : Type 0 where
  pub apart : (e.held && e.waits) ≡ false
  pub selected : (dir : Dir) → is_selected dir e ≡ true → e.held ≡ true
  pub armed : (dir : Dir) → is_armed_in dir e ≡ true → (e.held || e.waits) ≡ true

-- The selector tells of each event what these events of a history do, which stand by rising number
pub record Agrees (selector : Events) (events : List Event) : Type 0 where
  pub rising : IsStrictlyIncreasing (numbers events)
  pub listed : (n : ℕ) → has n selector.listed ≡ ((event_of n events).held || (event_of n events).waits)
  pub waiting : (n : ℕ) → has n selector.waiting ≡ (event_of n events).waits
  pub selected : (n : ℕ) (dir : Dir) → has n (in_dir dir selector.selected) ≡ is_selected dir (event_of n events)
  pub armed : (n : ℕ) (dir : Dir) → has n (in_dir dir selector.armed) ≡ is_armed_in dir (event_of n events)
  pub lawful : (n : ℕ) → IsLawful (event_of n events)

-- the numbers of the events that are held, by rising number
abbrev pub held_of : List Event → List ℕ
held_of events = numbers (filter (λ e. e.held) events)

-- no event is held or waits
abbrev pub is_empty : List ℕ → Bool
is_empty [] = true
is_empty events = false

-- the selector is what some calls made of a new one
pub record IsReached (selector : Events) : Type 0 where
  pub calls : List Call
  pub after : IsAfter calls selector

-- the event of this number is changed so
abbrev pub Changes : Events → Events → ℕ → (Event → Event) → Type 0
Changes old new n how = (events : List Event) → Agrees old events → Agrees new (change n how events)

-- the port's number and its end stay the same, but for what the end has sent
abbrev pub KeepsEnd : EventTable → EventTable → Type 0
KeepsEnd old new = new ≡ record old { selector = new.selector; asks = record old.asks { sent = new.asks.sent } }

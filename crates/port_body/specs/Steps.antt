-- What one step of a turn does, where memory is found.
use Rattle.std.specs.Prelude.{◌≡◌, ◌⊎◌, ◌+◌, ℕ, if◌then◌else◌, List, [], ◌∷◌, ◌++◌, length, Bool, true, false, ◌||◌, ◌&&◌, nat_lt}
use Rattle.task_queue.specs.declared.item.Item.{Item}
use Rattle.task_queue.specs.Ends.{KeepsOrder, TookAll, WasEmpty}
use Rattle.port_lanes.specs.Keys.{sender_at}
use Rattle.port_lanes.specs.Parcels.{ParcelView, FitsLane}
use Rattle.port_model.specs.declared.row.Row.{Row}
use Rattle.port_events.specs.port_history.Laws.{waits_where_busy}
use Rattle.port_events.specs.port_history.Marks.{is_busy}
use Rattle.port_events.specs.port_history.State.{is_open}
use Rattle.port_events.specs.port_history.Suspension.{is_queue_busy}
use Rattle.waiting_parcels.specs.Waiting.{has_sender, GoesFirst, NoneGoes}
use Rattle.recorded_port.specs.served_port.Outcomes.{is_handled}
use Rattle.recorded_port.specs.View.{RecordedView, state_of}
use Rattle.recorded_port.specs.Taking.{TellsOf}
use Rattle.task_queue.specs.Items.{of}
use Rattle.port_body.specs.LanePort.{LanePortView, HasRoom, IsBody, OwnItems}

abbrev pub is_busy_at : LanePortView → Bool
is_busy_at v = is_busy (state_of v.port).marks

-- a task that was taken from the lane has to wait: a process's, while the port is open, where an earlier one of its sender waits, or where it is an unforced
-- command and the port is busy
abbrev pub must_wait : LanePortView → Item ParcelView → Bool
must_wait v x =
    is_open (state_of v.port) && (nat_lt x.sender v.processes && (has_sender x.sender v.waiting.items || (is_busy_at v && waits_where_busy x.value.task)))

-- the rows that came tell of the task
pub record HasRow (old new : LanePortView) (x : Item ParcelView) : Type 0 where
  pub before : List Row
  pub row : Row
  pub behind : List Row
  pub rows : new.port.rows ≡ old.port.rows ++ before ++ row ∷ behind
  pub tells : TellsOf row (sender_at old.lane.key x.sender) x.seq x.value.task

-- it came to its row at once. Where the port isn't open after it, nothing waits on
pub record CameToRow (old new : LanePortView) (x : Item ParcelView) : Type 0 where
  pub row : HasRow old new x
  pub waiting : new.waiting.items ≡ (if is_open (state_of new.port) then old.waiting.items else [])

-- it came to wait behind the others, since it had to as the port is
pub record CameToWait (old new : LanePortView) (x : Item ParcelView) : Type 0 where
  pub has_to : must_wait (record new { waiting = old.waiting }) x ≡ true
  pub waiting : new.waiting.items ≡ old.waiting.items ++ x ∷ []

-- somebody is still suspended after a step that took a task only where the port is open, and busy, or where its last look at MSGQ found the queue busy
pub record StaySuspended (v : RecordedView) : Type 0 where
  pub opened : is_open (state_of v) ≡ true
  pub busy : (is_busy (state_of v).marks ≡ true) ⊎ ((word : ℕ) × (words : List ℕ) × (v.seat.known.words ≡ words ++ word ∷ []) × (is_queue_busy word ≡ true))

abbrev pub HasLooked : RecordedView → Type 0
HasLooked v = ((state_of v).listed ≡ []) ⊎ StaySuspended v

-- a task came to its row, and behind it, where the port isn't open after it, all that waited to theirs
pub record Settles (old new : LanePortView) (x : Item ParcelView) : Type 0 where
  pub row : Row
  pub behind : List Row
  pub rows : new.port.rows ≡ old.port.rows ++ row ∷ behind
  pub tells : TellsOf row (sender_at old.lane.key x.sender) x.seq x.value.task
  pub lane : new.lane ≡ old.lane
  pub waiting : new.waiting.items ≡ (if is_open (state_of new.port) then old.waiting.items else [])
  pub looked : HasLooked new.port

-- an unforced command doesn't go while the port is busy
abbrev pub MayGo : LanePortView → Item ParcelView → Type 0
MayGo v x = is_handled (state_of v.port) (sender_at v.lane.key x.sender) x.value.task.signal ≡ true → (waits_where_busy x.value.task && is_busy_at v) ≡ false

-- the numbers of processes and workers are those of the lane
pub record KnowsLane (v : LanePortView) : Type 0 where
  pub processes : v.processes ≡ v.lane.key.processes
  pub workers : v.workers ≡ v.lane.key.workers

-- A task came to its row, and those who may be resumed were. A port that isn't open stays so. The row took room for three rows, or for one where the task is late
pub record SettlesOne (old new : LanePortView) (x : Item ParcelView) : Type 0 where
  pub row : Row
  pub behind : List Row
  pub rows : new.port.rows ≡ old.port.rows ++ row ∷ behind
  pub tells : TellsOf row (sender_at old.lane.key x.sender) x.seq x.value.task
  pub rest : new ≡ record old { port = new.port }
  pub looked : HasLooked new.port
  pub shut : is_open (state_of old.port) ≡ false → is_open (state_of new.port) ≡ false
  pub room : (rows : ℕ) → HasRoom (rows + 3) old → HasRoom rows new
  pub late : is_handled (state_of old.port) (sender_at old.lane.key x.sender) x.value.task.signal ≡ false → (rows : ℕ) → HasRoom (rows + 1) old → HasRoom rows new

-- rows came for the first task that waited, and there is room for those that still wait
pub record SettlesFirst (old new : LanePortView) : Type 0 where
  pub behind : List Row
  pub rows : new.port.rows ≡ old.port.rows ++ behind
  pub lane : new.lane ≡ old.lane
  pub processes : new.processes ≡ old.processes
  pub owners : OwnItems new.processes new.waiting.items
  pub looked : HasLooked new.port
  pub shut : is_open (state_of new.port) ≡ false
  pub room : HasRoom (2 + length new.waiting.items) new

abbrev pub SettlesNext : Bool → LanePortView → LanePortView → Type 0
SettlesNext true old new = SettlesFirst old new
SettlesNext false old new = (old.waiting.items ≡ []) × (new ≡ old)

-- rows came for all that waited
pub record SettlesRest (old new : LanePortView) : Type 0 where
  pub behind : List Row
  pub rows : new.port.rows ≡ old.port.rows ++ behind
  pub lane : new.lane ≡ old.lane
  pub waiting : new.waiting.items ≡ []
  pub looked : HasLooked new.port
  pub shut : is_open (state_of new.port) ≡ false

-- the item was just taken from the lane, of a body that is as it should be but for that
pub record Came (v : LanePortView) (x : Item ParcelView) : Type 0 where
  pub before : List (Item ParcelView)
  pub taken : v.lane.taken ≡ before ++ x ∷ []
  pub body : IsBody (record v { lane = record v.lane { taken = before } })
  pub next : x.seq ≡ length (of x.sender before)
  pub fits : FitsLane v.lane.key x.sender x.value

-- at most a row of a listed sender came, and the port is open as before
pub record ListsSender (old new : LanePortView) : Type 0 where
  pub more : List Row
  pub rows : new.port.rows ≡ old.port.rows ++ more
  pub rest : new ≡ record old { port = new.port }
  pub reason : (state_of new.port).reason ≡ (state_of old.port).reason
  pub room : (rows : ℕ) → HasRoom (rows + 2) old → HasRoom rows new

-- the item came to its row, or to wait
pub record Arrives (old new : LanePortView) (x : Item ParcelView) : Type 0 where
  pub went : CameToRow old new x ⊎ CameToWait old new x
  pub lane : new.lane ≡ old.lane
  pub looked : HasLooked new.port

-- the first waiting task that may go went, and nothing was taken from the lane
pub record WaitingWent (old new : LanePortView) : Type 0 where
  pub item : Item ParcelView
  pub rest : List (Item ParcelView)
  pub first : GoesFirst (is_busy_at old) old.waiting.items item rest
  pub row : HasRow old new item
  pub lane : new.lane ≡ old.lane
  pub waiting : new.waiting.items ≡ (if is_open (state_of new.port) then rest else [])

-- none may go, and the next task of the lane came to its row, or to wait
pub record LaneWent (old new : LanePortView) : Type 0 where
  pub item : Item ParcelView
  pub none : NoneGoes (is_busy_at old) old.waiting.items
  pub lane : new.lane ≡ record old.lane { taken = old.lane.taken ++ item ∷ [] }
  pub went : CameToRow old new item ⊎ CameToWait old new item

-- none may go, and the lane was found empty, when all that its ended senders sent had been taken: nothing changed but the room for rows
pub record FoundNothing (old new : LanePortView) : Type 0 where
  pub none : NoneGoes (is_busy_at old) old.waiting.items
  pub empty : WasEmpty FitsLane old.lane
  pub all : TookAll old.lane
  pub order : KeepsOrder FitsLane new.lane
  pub port : new.port ≡ record old.port { room = new.port.room }
  pub lane : new.lane ≡ old.lane
  pub waiting : new.waiting.items ≡ old.waiting.items

-- what a step did: a task went or came to wait, and those who may be resumed were; or there was nothing
abbrev pub Stepped : Bool → LanePortView → LanePortView → Type 0
Stepped true old new = (WaitingWent old new ⊎ LaneWent old new) × HasLooked new.port
Stepped false old new = FoundNothing old new

-- A port with its lane and the tasks that wait, as contracts see it, and what always holds of it.
use Rattle.std.specs.Prelude.{◌≡◌, ◌<◌, ◌≤◌, ◌+◌, ℕ, List, [], ◌∷◌, ◌++◌, length, map, suc, true, false, if◌then◌else◌}
use Rattle.std.specs.List.{AllByRecursion}
use Rattle.task_queue.specs.declared.item.Item.{Item}
use Rattle.task_queue.specs.Ends.{Taking}
use Rattle.task_queue.specs.Items.{items_of}
use Rattle.port_lanes.specs.Keys.{Key, end_of, sender_at}
use Rattle.port_lanes.specs.Parcels.{ParcelView, FitsLane}
use Rattle.port_model.specs.declared.row.Row.{Row}
use Rattle.port_model.specs.declared.row.Row.TheVariants.{Handled, Late}
use Rattle.port_model.specs.declared.signal.Sender.{Sender}
use Rattle.port_model.specs.declared.signal.Sender.TheVariants.{Timer}
use Rattle.port_model.specs.Tasks.{TaskView}
use Rattle.port_events.specs.port_history.Laws.{is_listed_right}
use Rattle.port_events.specs.port_history.Opening.{same_sender}
use Rattle.port_events.specs.port_history.State.{is_open}
use Rattle.port_events.specs.port_history.Suspension.{Entry}
use Rattle.waiting_parcels.specs.Waiting.{Waiting}
use Rattle.recorded_port.specs.Taking.{IsSameRecorded}
use Rattle.recorded_port.specs.View.{RecordedView, IsSettled, history, state_of}

-- the port, its end of the lane, the tasks that were taken and have no row yet, and how many processes and workers there are
pub record LanePortView : Type 0 where
  pub port : RecordedView
  pub lane : Taking ParcelView Key
  pub waiting : Waiting
  pub processes : ℕ
  pub workers : ℕ

abbrev pub task_from : Sender → Sender → TaskView → List TaskView
task_from from other task = if same_sender from other then task ∷ [] else []

-- the tasks of a sender that have a row, oldest first, of rows that stand newest first
abbrev pub rows_from : Sender → List Row → List TaskView
rows_from from [] = []
rows_from from (Handled other seq task outside effects ∷ older) = rows_from from older ++ task_from from other task
rows_from from (Late other seq task ∷ older) = rows_from from older ++ task_from from other task
rows_from from (row ∷ older) = rows_from from older

-- the tasks of an end among these
abbrev pub tasks_of : ℕ → List (Item ParcelView) → List TaskView
tasks_of number items = map (λ (i : Item ParcelView). i.value.task) (items_of number items)

-- the numbers of these items are so many and those after it
abbrev pub AreNumbered : ℕ → List (Item ParcelView) → Type 0
AreNumbered first [] = Unit {0}
AreNumbered first (x ∷ items) = (x.seq ≡ first) × AreNumbered (suc first) items

-- the rows of an end's sender, and then these items of it, are what was taken of it, in its order
pub record Accounts (v : LanePortView) (items : List (Item ParcelView)) (number : ℕ) : Type 0 where
  pub tasks : rows_from (sender_at v.lane.key number) (history v.port) ++ tasks_of number items ≡ tasks_of number v.lane.taken
  pub numbers : AreNumbered (length (rows_from (sender_at v.lane.key number) (history v.port))) (items_of number items)

-- an item that has no row yet: it fits its end, was listed exactly if it suspends, and was taken
pub record IsDue (v : LanePortView) (x : Item ParcelView) : Type 0 where
  pub fits : FitsLane v.lane.key x.sender x.value
  pub listed : is_listed_right (state_of v.port) (sender_at v.lane.key x.sender) x.seq x.value.task ≡ true
  pub taken : x.seq < length (items_of x.sender v.lane.taken)

-- a task that was listed was taken
pub record WasTaken (v : LanePortView) (e : Entry) : Type 0 where
  pub number : ℕ
  pub within : number < end_of v.lane.key Timer
  pub from : e.from ≡ sender_at v.lane.key number
  pub taken : e.seq < length (items_of number v.lane.taken)

-- newest first, each entry has a higher number than the older ones of its sender
abbrev pub AreFalling : List Entry → Type 0
AreFalling [] = Unit {0}
AreFalling (e ∷ older) = AllByRecursion (λ (o : Entry). same_sender e.from o.from ≡ true → o.seq < e.seq) older × AreFalling older

-- the sender has an end of the lane
pub record HasEnd (key : Key) (from : Sender) : Type 0 where
  pub number : ℕ
  pub within : number < end_of key Timer
  pub is : from ≡ sender_at key number

-- these are the items that have no row yet, of a port that is settled
pub record Holds (v : LanePortView) (items : List (Item ParcelView)) : Type 0 where
  pub settled : IsSettled v.port
  pub table : v.lane.key.table ≡ v.port.seat.table
  pub processes : v.processes ≡ v.lane.key.processes
  pub workers : v.workers ≡ v.lane.key.workers
  pub port_processes : v.port.opening.processes ≡ v.processes
  pub senders : v.waiting.senders ≡ v.processes
  pub accounts : (number : ℕ) → number < end_of v.lane.key Timer → Accounts v items number
  pub due : AllByRecursion (IsDue v) items
  pub entries : AllByRecursion (WasTaken v) (state_of v.port).entries
  pub falling : AreFalling (state_of v.port).entries
  pub from_ends : AllByRecursion (HasEnd v.lane.key) (state_of v.port).senders

-- there is room for so many rows, beside one for each sender who is listed
abbrev pub HasRoom : ℕ → LanePortView → Type 0
HasRoom rows v = rows + length (state_of v.port).listed ≤ v.port.room

-- each is a task of one of so many processes
abbrev pub OwnItems : ℕ → List (Item ParcelView) → Type 0
OwnItems processes items = AllByRecursion (λ (x : Item ParcelView). x.sender < processes) items

-- What always holds of a body whose calls all found memory: the items that wait have no row yet, only processes' tasks wait, and nothing waits where the port
-- isn't open
pub record IsBody (v : LanePortView) : Type 0 where
  pub holds : Holds v v.waiting.items
  pub owners : OwnItems v.processes v.waiting.items
  pub closed : is_open (state_of v.port) ≡ false → v.waiting.items ≡ []

-- the same port, with the same lane and ends: rows came behind the others, and items were taken behind the others, or none
pub record IsSameLanePort (old new : LanePortView) : Type 0 where
  pub port : IsSameRecorded old.port new.port
  pub lane : new.lane ≡ record old.lane { taken = new.lane.taken }
  pub more : List (Item ParcelView)
  pub taken : new.lane.taken ≡ old.lane.taken ++ more
  pub processes : new.processes ≡ old.processes
  pub workers : new.workers ≡ old.workers

-- the same tasks wait, and there may be more room
pub record IsSameBut (old new : LanePortView) : Type 0 where
  pub rest : new ≡ record old { port = record old.port { room = new.port.room }; waiting = new.waiting }
  pub items : new.waiting.items ≡ old.waiting.items
  pub senders : new.waiting.senders ≡ old.waiting.senders

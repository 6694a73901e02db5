-- What the rows of a settled port are.
use Rattle.std.specs.Prelude.{◌≡◌, ◌<◌, ℕ, List, [], ◌∷◌, ◌++◌, length, map, reverse, slice_index_or}
use Rattle.task_queue.specs.declared.protocol.Ended.{Ended}
use Rattle.task_queue.specs.Ends.{Taking, ended_of}
use Rattle.port_lanes.specs.Keys.{Key, end_of, sender_at}
use Rattle.port_lanes.specs.Parcels.{ParcelView}
use Rattle.port_model.specs.declared.row.Row.{Row}
use Rattle.port_model.specs.declared.signal.Sender.TheVariants.{Timer}
use Rattle.port_body.specs.recorded_port.declared.parts.PortOutlets.{PortOutlets}
use Rattle.port_body.specs.Body.{BodyView}
use Rattle.port_body.specs.Ends.{IsWholeEnd}
use Rattle.port_body.specs.LanePort.{rows_from}
use Rattle.closed_ports.specs.Ends.{AreOfBodies, LaneEnd, TakeEndsIn, with_ends}
use Rattle.closed_ports.specs.Settling.{AreSamePorts, AreSettled, IsSettled}

-- a settled port took in these ends of its lane last, which are all of it, by their numbers: those of the processes, of the poller and of the workers
pub record HasAllEnds (v : BodyView) (ends : List LaneEnd) : Type 0 where
  pub settled : IsSettled v
  pub many : length ends ≡ end_of v.lane_port.lane.key Timer
  pub numbered : (number : ℕ) (d : LaneEnd) → number < length ends → (slice_index_or ends number d).number ≡ number
  pub before : List (Ended ParcelView)
  pub ended : v.lane_port.lane.ended ≡ before ++ map ended_of ends

-- the tasks of each end's sender that have a row are those that it sent, in its order, in a history whose newest row stands first
abbrev pub RowsAreSent : Key → List LaneEnd → List Row → Type 0
RowsAreSent key ends history = (number : ℕ) (d : LaneEnd) → number < length ends
    → rows_from (sender_at key number) history ≡ map (λ (p : ParcelView). p.task) (slice_index_or ends number d).sent

-- so it is with what a settled port leaves
abbrev pub SettledRowsAreSent : Type 0
SettledRowsAreSent = (v : BodyView) (rows : List Row) (outlets : PortOutlets) (lane : Taking ParcelView Key) (ends : List LaneEnd) → HasAllEnds v ends → lane ≡ v.lane_port.lane
    → IsWholeEnd v rows outlets lane → RowsAreSent lane.key ends (reverse rows)

-- the ends of the port at this place, of several that each have one end of each port
abbrev pub ends_at : ℕ → LaneEnd → List (List LaneEnd) → List LaneEnd
ends_at port d columns = map (λ (ends : List LaneEnd). slice_index_or ends port d) columns

-- each body took in its end of each of these columns, one column after another, and nothing else changed
pub record TakeColumnsIn (old : List BodyView) (columns : List (List LaneEnd)) (new : List BodyView) : Type 0 where
  pub many : length new ≡ length old
  pub each : (port : ℕ) (v w : BodyView) (d : LaneEnd) → port < length old → slice_index_or new port v ≡ with_ends (slice_index_or old port w) (ends_at port d columns)

-- before the first column
abbrev pub NoColumnYet : Type 0
NoColumnYet = (bodies : List BodyView) → TakeColumnsIn bodies [] bodies

-- and with each further one
abbrev pub OneColumnMore : Type 0
OneColumnMore = (old mid new : List BodyView) (columns : List (List LaneEnd)) (ends : List LaneEnd) → TakeColumnsIn old columns mid → TakeEndsIn mid ends new
    → TakeColumnsIn old (columns ++ ends ∷ []) new

-- what was an end of each body's lane is so after some columns were taken in
abbrev pub ColumnsStayOfBodies : Type 0
ColumnsStayOfBodies = (old mid : List BodyView) (columns : List (List LaneEnd)) (ends : List LaneEnd) → TakeColumnsIn old columns mid → AreOfBodies old ends → AreOfBodies mid ends

-- these columns are all ends of each body's lane, by their numbers
pub record AreAllColumns (bodies : List BodyView) (columns : List (List LaneEnd)) : Type 0 where
  pub many : (port : ℕ) (v : BodyView) → port < length bodies → length columns ≡ end_of (slice_index_or bodies port v).lane_port.lane.key Timer
  pub numbered : (number port : ℕ) (c : List LaneEnd) (d : LaneEnd) → number < length columns → port < length bodies
      → (slice_index_or (slice_index_or columns number c) port d).number ≡ number

-- ports that settled after they took in all columns took in all ends of their lanes
abbrev pub ColumnsAreAllEnds : Type 0
ColumnsAreAllEnds = (old mid new : List BodyView) (columns : List (List LaneEnd)) → AreAllColumns old columns → TakeColumnsIn old columns mid → AreSamePorts mid new → AreSettled new
    → (port : ℕ) (v : BodyView) (d : LaneEnd) → port < length old → HasAllEnds (slice_index_or new port v) (ends_at port d columns)

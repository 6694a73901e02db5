-- The ends of lanes that the ports take in.
use Rattle.std.specs.Prelude.{◌≡◌, ◌<◌, ℕ, List, [], ◌∷◌, ◌++◌, length, map, slice_index_or}
use Rattle.task_queue.specs.Ends.{Sending, ended_of}
use Rattle.port_lanes.specs.Keys.{Key}
use Rattle.port_lanes.specs.Parcels.{ParcelView}
use Rattle.port_body.specs.Body.{BodyView}

-- a sending end of a port's lane
abbrev pub LaneEnd : Type 0
LaneEnd = Sending ParcelView Key

-- the body after it took these ends in, and after it took in one
abbrev pub with_ends : BodyView → List LaneEnd → BodyView
with_ends v ends = record v { lane_port = record v.lane_port { lane = record v.lane_port.lane { ended = v.lane_port.lane.ended ++ map ended_of ends } } }

abbrev pub with_end : BodyView → LaneEnd → BodyView
with_end v end = with_ends v (end ∷ [])

-- one end of each body's lane, in the order of the bodies
pub record AreOfBodies (bodies : List BodyView) (ends : List LaneEnd) : Type 0 where
  pub many : length ends ≡ length bodies
  pub each : (port : ℕ) (v : BodyView) (d : LaneEnd) → port < length bodies → (slice_index_or ends port d).lane ≡ (slice_index_or bodies port v).lane_port.lane.lane

-- each body took in the end at its place, and nothing else changed
pub record TakeEndsIn (old : List BodyView) (ends : List LaneEnd) (new : List BodyView) : Type 0 where
  pub many : length new ≡ length old
  pub each : (port : ℕ) (v w : BodyView) (d : LaneEnd) → port < length old → slice_index_or new port v ≡ with_end (slice_index_or old port w) (slice_index_or ends port d)

-- Ports that have made all their turns.
use Rattle.std.specs.Prelude.{◌≡◌, ◌<◌, ◌⊎◌, ℕ, List, length, All, slice_index_or, true, false}
use Rattle.task_queue.specs.Ends.{KeepsOrder, TookAll}
use Rattle.port_lanes.specs.Parcels.{FitsLane}
use Rattle.port_body.specs.Body.{BodyView, name_of}
use Rattle.port_body.specs.LanePort.{LanePortView, IsSameLanePort}
use Rattle.port_body.specs.Steps.{Stepped}

-- it isn't broken, it has finished, and it took all that the ended senders of its lane sent, each one's tasks in their order
pub record IsSettled (v : BodyView) : Type 0 where
  pub whole : v.broken ≡ false
  pub finished : v.finished ≡ true
  pub all : TookAll v.lane_port.lane
  pub order : KeepsOrder FitsLane v.lane_port.lane

-- it isn't broken, and has nothing to do, but hasn't finished
pub record IsStuck (v : BodyView) : Type 0 where
  pub whole : v.broken ≡ false
  pub unfinished : v.finished ≡ false
  pub before : LanePortView
  pub none : Stepped false before v.lane_port

-- it is broken, or it has nothing to do and still owes something
abbrev pub IsUnsettled : BodyView → Type 0
IsUnsettled v = (v.broken ≡ true) ⊎ IsStuck v

-- it settled, or it can't
abbrev pub IsAtRest : BodyView → Type 0
IsAtRest v = IsSettled v ⊎ IsUnsettled v

abbrev pub AreSettled : List BodyView → Type 0
AreSettled bodies = All IsSettled bodies

pub record SomeIsUnsettled (bodies : List BodyView) : Type 0 where
  pub port : ℕ
  pub within : port < length bodies
  pub stands : (v : BodyView) → IsUnsettled (slice_index_or bodies port v)

-- a body that made turns
pub record IsSamePort (old new : BodyView) : Type 0 where
  pub name : name_of new ≡ name_of old
  pub same : IsSameLanePort old.lane_port new.lane_port

-- each body is the one at its place that made turns
pub record AreSamePorts (old new : List BodyView) : Type 0 where
  pub many : length new ≡ length old
  pub each : (port : ℕ) (v w : BodyView) → port < length old → IsSamePort (slice_index_or old port v) (slice_index_or new port w)

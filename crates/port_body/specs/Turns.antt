-- What a turn does: a chain of steps.
use Rattle.std.specs.Prelude.{◌≡◌, ◌<◌, ℕ, zero, suc, true, false}
use Rattle.port_sched.specs.declared.body.Turn.{Turn}
use Rattle.port_sched.specs.declared.body.Turn.TheVariants.{Idle, More, NoMemory}
use Rattle.port_body.specs.Body.{BodyView, name_of}
use Rattle.port_body.specs.LanePort.{LanePortView, IsSameLanePort}
use Rattle.port_body.specs.Steps.{Stepped}

-- so many steps, one after another, each of which did something
abbrev pub Steps : ℕ → LanePortView → LanePortView → Type 0
Steps zero old new = new ≡ old
Steps (suc made) old new = (mid : LanePortView) × Steps made old mid × Stepped true mid new

-- fewer than `max` steps, and then one that found nothing
pub record FoundNone (max : ℕ) (old new : LanePortView) : Type 0 where
  pub made : ℕ
  pub fewer : made < max
  pub mid : LanePortView
  pub steps : Steps made old mid
  pub none : Stepped false mid new

-- fewer than `max` steps, and then one that found no memory on its way
pub record BrokeOff (max : ℕ) (old new : LanePortView) : Type 0 where
  pub made : ℕ
  pub fewer : made < max
  pub mid : LanePortView
  pub steps : Steps made old mid
  pub same : IsSameLanePort mid new

-- what the steps of a turn answer
abbrev pub MakesSteps : Turn → ℕ → LanePortView → LanePortView → Type 0
MakesSteps Idle max old new = FoundNone max old new
MakesSteps More max old new = Steps max old new
MakesSteps NoMemory max old new = BrokeOff max old new

-- what a turn answers of a body that isn't broken: a step that finds no memory breaks it
abbrev pub TurnedWhole : Turn → ℕ → BodyView → BodyView → Type 0
TurnedWhole NoMemory max old new = BrokeOff max old.lane_port new.lane_port × (new.broken ≡ true) × (new.finished ≡ old.finished)
TurnedWhole turn max old new = MakesSteps turn max old.lane_port new.lane_port × (new.broken ≡ false)

-- A turn is of a body that isn't broken, or it finds no memory and does nothing. Whatever it answers, the body keeps its name, its rows and what it took stay the
-- first ones, and it stays finished
pub record Turned (turn : Turn) (max : ℕ) (old new : BodyView) : Type 0 where
  pub whole : old.broken ≡ false → TurnedWhole turn max old new
  pub broken : old.broken ≡ true → (turn ≡ NoMemory) × (new ≡ old)
  pub name : name_of new ≡ name_of old
  pub same : IsSameLanePort old.lane_port new.lane_port
  pub finished : old.finished ≡ true → new.finished ≡ true

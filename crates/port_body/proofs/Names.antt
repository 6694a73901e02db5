-- What turns leave, and what a body is called.
use Rattle.std.proofs.Common.{◌≡◌, ℕ, Bool, true, false, refl, ap, ◌∙◌}
use Rattle.task_queue.specs.Ends.{Taking}
use Rattle.port_events.specs.Table.{EventTable}
use Rattle.port_lanes.specs.Keys.{Key}
use Rattle.port_lanes.specs.Parcels.{ParcelView}
use Rattle.recorded_port.specs.served_port.View.{end_name}
use Rattle.port_body.specs.Body.{BodyView, BodyName, name_of}
use Rattle.port_sched.specs.declared.body.Turn.{Turn}
use Rattle.port_sched.specs.declared.body.Turn.TheVariants.{Idle, More, NoMemory}
use Rattle.recorded_port.specs.View.{RecordedView, is_finished, state_of}
use Rattle.port_body.specs.LanePort.{LanePortView, IsBody, IsSameLanePort}
use Rattle.port_body.specs.Turns.{MakesSteps, TurnedWhole}
use Rattle.port_body.proofs.Finished.{finished_idle, finished_steps}

abbrev pub named : LanePortView → ℕ → BodyName
named v faults = name_of (record { lane_port = v; broken = false; finished = false; first_faults = faults })

-- a port that is the same has the same name
pub same_name : (old new : LanePortView) (faults : ℕ) → IsSameLanePort old new → named new faults ≡ named old faults
same_name old new faults same =
    let name = named new faults in
    let was = named old faults in
    ap (λ x. record name { opening = x }) same.port.opening
    ∙ (ap (λ x. record name { opening = was.opening; processes = x }) same.processes
    ∙ (ap (λ x. record name { opening = was.opening; processes = was.processes; workers = x }) same.workers
    ∙ (ap (λ (l : Taking ParcelView Key). record name { opening = was.opening; processes = was.processes; workers = was.workers; lane = l.lane; key = l.key }) same.lane
    ∙ (ap (λ x. record was { table = x; setup = name.setup; joined = name.joined; mailboxes = name.mailboxes; asks = name.asks; pool = name.pool }) same.port.seat.table
    ∙ (ap (λ x. record was { setup = x; joined = name.joined; mailboxes = name.mailboxes; asks = name.asks; pool = name.pool }) same.port.seat.setup
    ∙ (ap (λ x. record was { joined = x; mailboxes = name.mailboxes; asks = name.asks; pool = name.pool }) same.port.seat.joined
    ∙ (ap (λ x. record was { mailboxes = x; asks = name.asks; pool = name.pool }) same.port.ends
    ∙ (ap (λ (e : EventTable). record was { asks = end_name e.asks; pool = name.pool }) same.port.port.events
    ∙ ap (λ x. record was { pool = x }) same.port.port.pool))))))))

-- a chain of steps that isn't broken off
pub finished_turn : (turn : Turn) (max : ℕ) (old new : LanePortView) → (turn ≡ NoMemory → ⊥) → IsBody old → IsBody new → IsSameLanePort old new → MakesSteps turn max old new
    → is_finished (state_of old.port) ≡ true → is_finished (state_of new.port) ≡ true
finished_turn Idle max old new whole before after same found finished =
    let rows : new.port ≡ record found.mid.port { room = new.port.room } = found.none.port in
    finished_idle old new found.mid before after same found.made found.steps (ap (λ (v : RecordedView). state_of v) rows) finished
finished_turn More max old new whole before after same steps finished = finished_steps max old new before after same steps finished
finished_turn NoMemory max old new whole before after same broke finished = absurd (whole refl)

pub whole_turn : (turn : Turn) (max : ℕ) (old new : BodyView) → (turn ≡ NoMemory → ⊥) → MakesSteps turn max old.lane_port new.lane_port → new.broken ≡ false → TurnedWhole turn max old new
whole_turn Idle max old new whole steps broken = (steps, broken)
whole_turn More max old new whole steps broken = (steps, broken)
whole_turn NoMemory max old new whole steps broken = absurd (whole refl)

-- what a test tells apart differs
pub unlike : {X : Type 0} (same : X → Bool) (one other : X) → false ≡ same one → same other ≡ true → one ≡ other → ⊥
unlike same one other differs is equal = absurd (let both : false ≡ true = differs ∙ (ap same equal ∙ is) in cc)

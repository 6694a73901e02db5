-- Facts of the lanes of a process.
use Rattle.std.proofs.Common.{arith, zero, suc, ◌≡◌, ℕ, ◌<◌, List, [], ◌∷◌, length, refl}
use Rattle.std.specs.Prelude.{slice_index_or}
use Rattle.process_end.specs.Views.{LaneEnd}
use Rattle.process_end.specs.Steps.{tasks_of, sent_to}

-- where there is a port there is a lane's end
pub with-lane : {X : Type 0} (lanes : List LaneEnd) (k : ℕ) → k < length lanes → (LaneEnd → X) → X
with-lane [] k within f = absurd (omega arith)
with-lane (lane ∷ lanes) k within f = f lane

pub sent-at : (lanes : List LaneEnd) (k : ℕ) (d : LaneEnd) → k < length lanes → sent_to k lanes ≡ length (tasks_of (slice_index_or lanes k d))
sent-at [] k d within = absurd (omega arith)
sent-at (lane ∷ lanes) zero d within = refl
sent-at (lane ∷ lanes) (suc k) d within = sent-at lanes k d (omega arith)

-- Readiness in memory: rounds of events, and what a wait answers by them.
use Rattle.std.specs.Prelude.{ℕ, ◌==◌, if◌then◌else◌, List, [], ◌∷◌, filter, length}
use Rattle.std.specs.List.{list_any}
use Rattle.outside.specs.Plan.{CallPlanView}

-- the rounds that are left, the events answered so far, the waits made and to fail, and their faults
pub record Rounds : Type 0 where
  pub rounds : List (List ℕ)
  pub answered : List ℕ
  pub waits : CallPlanView
  pub faults : ℕ

-- the armed events that are in a round
abbrev pub ready_of : List ℕ → List ℕ → List ℕ
ready_of round armed = filter (λ event. list_any (λ ready. ready == event) round) armed

-- the armed events that a wait finds ready: those in the next round, and all once the rounds are used up
abbrev pub found : List (List ℕ) → List ℕ → List ℕ
found [] armed = armed
found (round ∷ rounds) armed = ready_of round armed

-- the rounds left after a wait: the next one is used up where one of its events is armed
abbrev pub rounds_left : List (List ℕ) → List ℕ → List (List ℕ)
rounds_left [] armed = []
rounds_left (round ∷ rounds) armed = if length (ready_of round armed) == 0 then round ∷ rounds else rounds

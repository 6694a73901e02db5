-- What is kept beside the steps agrees with them.
use Rattle.std.specs.Prelude.{◌≡◌, ℕ, ◌+◌, ◌*◌, ◌<◌, ◌≤◌, Bool, false, List, [], length, slice_index_or}
use Rattle.script_plan.specs.declared.step.Step.{Step}
use Rattle.gateway_script.specs.declared.steps.Steps.{Steps}
use Rattle.gateway_script.specs.declared.steps.Pair.{Pair}
use Rattle.script_plan.specs.Monitors.{has_died, monitor_count, monitors_of, ended}

-- no monitors
abbrev pub IsNone : Pair → Type 0
IsNone pair = (pair.begun.items ≡ []) × (pair.ended ≡ 0)

-- the monitors of this process and port
pub record IsPairOf (process port : ℕ) (steps : List Step) (pair : Pair) : Type 0 where
  pub begun_are : pair.begun.items ≡ monitors_of process port steps
  pub ended_is : pair.ended ≡ ended process port steps

-- what is kept agrees with the steps, for each process and port that there may be
pub record IsKept (died : List Bool) (monitors : List ℕ) (pairs : List Pair) (steps : List Step) : Type 0 where
  pub died_is : (p : ℕ) → p < 32 → slice_index_or died p false ≡ has_died p steps
  pub count_is : (p : ℕ) → p < 32 → slice_index_or monitors p 0 ≡ monitor_count p steps
  pub pair_is : (p q : ℕ) (d : Pair) → p < 32 → q < 32 → IsPairOf p q steps (slice_index_or pairs (32 * p + q) d)
  pub died_len : length died ≡ 32
  pub count_len : length monitors ≡ 32
  pub pair_len : length pairs ≡ 1024

-- the steps are within their limit, with what is kept of them
pub record IsSteps (s : Steps) : Type 0 where
  pub kept : IsKept s.died s.monitors s.pairs.items s.list.items
  pub few : length s.list.items ≤ 131072

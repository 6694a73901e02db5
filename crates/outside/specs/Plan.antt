-- The calls of one kind on an object in memory.
use Rattle.std.specs.Prelude.{ℕ, ◌+◌, ◌-◌, ◌^◌, min, Bool, ◌==◌, if◌then◌else◌, List, [], ◌∷◌, ◌++◌}
use Rattle.std.specs.List.{list_any}

-- how many calls were made, and the numbers of those that are to fail, from 0
pub record CallPlanView : Type 0 where
  pub calls : ℕ
  pub failing : List ℕ

-- no call was made, and none is to fail
abbrev pub no_calls : CallPlanView
no_calls = record { calls = 0; failing = [] }

-- the plan with one more call that is to fail
abbrev pub with_fault : CallPlanView → ℕ → CallPlanView
with_fault plan number = record { calls = plan.calls; failing = plan.failing ++ number ∷ [] }

-- one more, up to the greatest `u64`
abbrev pub counted : ℕ → ℕ
counted n = min (n + 1) (2 ^ 64 - 1)

-- whether the next call is to fail
abbrev pub fails : CallPlanView → Bool
fails plan = list_any (λ number. number == plan.calls) plan.failing

-- the plan once the next call was made
abbrev pub after_call : CallPlanView → CallPlanView
after_call plan = record { calls = counted plan.calls; failing = plan.failing }

-- a count of faults once the next call was made
abbrev pub faults_after : CallPlanView → ℕ → ℕ
faults_after plan faults = if fails plan then counted faults else faults

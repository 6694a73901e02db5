-- What each process of a script does.
use Rattle.std.specs.Prelude.{◌≡◌, ℕ, ◌<◌, ◌==◌, List, length, map, filter, is_some, slice_index_or}
use Rattle.std.specs.List.{zip}
use Rattle.script_plan.specs.declared.step.Step.{Step}
use Rattle.run_opening.specs.run_seats.declared.plans.ProcessSteps.{ProcessSteps}
use Rattle.script_input.specs.Contents.{file_of}

-- the steps of a process, in their order
abbrev pub steps_of : ℕ → List Step → List Step
steps_of process steps = filter (λ s. s.process == process) steps

-- the steps that send a file
abbrev pub sending : List Step → List Step
sending steps = filter (λ s. is_some (file_of s.act)) steps

-- the contents of the files that the process sends, in the order of its steps, where these are the contents of all that are sent
abbrev pub files_of : ℕ → List Step → List (List ℕ) → List (List ℕ)
files_of process steps contents = map (λ p. p.1) (filter (λ p. p.0.process == process) (zip (sending steps) contents))

-- these are the steps of this process, and the contents of its files
pub record AreStepsOf (steps : List Step) (contents : List (List ℕ)) (process : ℕ) (own_steps : ProcessSteps) : Type 0 where
  pub steps_are : own_steps.steps.items ≡ steps_of process steps
  pub files_are : own_steps.files.items ≡ files_of process steps contents

-- these are the steps of each of so many processes
pub record AreStepsOfAll (processes : ℕ) (steps : List Step) (contents : List (List ℕ)) (process_steps : List ProcessSteps) : Type 0 where
  pub many : length process_steps ≡ processes
  pub each : (process : ℕ) (p : ProcessSteps) → process < processes → AreStepsOf steps contents process (slice_index_or process_steps process p)

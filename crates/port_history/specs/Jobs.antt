-- The jobs of a port: which were submitted, and which were told done.
use Rattle.std.specs.Prelude.{ℕ, ◌==◌, List, [], ◌∷◌, Bool, ◌&&◌, ◌||◌, not, nat_lt}
use Rattle.std.specs.List.{list_any, list_all}
use Rattle.driver_model.specs.port_model.declared.signal.Signal.{Signal}
use Rattle.driver_model.specs.port_model.declared.signal.Signal.TheVariants.{AsyncDone}
use Rattle.driver_model.specs.port_model.declared.effect.Effect.{Effect}
use Rattle.driver_model.specs.port_model.declared.effect.Effect.TheVariants.{Async}

pub record Submitted : Type 0 where
  pub number : ℕ
  pub key : ℕ
  pub code : ℕ
  pub input : List ℕ

-- the jobs that these effects submit
abbrev pub submitted_by : List Effect → List Submitted
submitted_by [] = []
submitted_by (Async number key code input ∷ effects) = record { number = number; key = key; code = code; input = input } ∷ submitted_by effects
submitted_by (effect ∷ effects) = submitted_by effects

-- with the job that the signal tells done, the last one first
abbrev pub done_by : Signal → List ℕ → List ℕ
done_by (AsyncDone number output) done = number ∷ done
done_by signal done = done

abbrev pub is_done : ℕ → List ℕ → Bool
is_done number done = list_any (λ other. other == number) done

abbrev pub is_submitted : ℕ → List Submitted → Bool
is_submitted number jobs = list_any (λ job. job.number == number) jobs

-- each job of this number passes the test
abbrev pub each_of : ℕ → (Submitted → Bool) → List Submitted → Bool
each_of number test jobs = list_all (λ job. not (job.number == number) || test job) jobs

-- no later job of this key is done: those of one key are told in the order of their numbers
abbrev pub is_next_of_key : List Submitted → List ℕ → Submitted → Bool
is_next_of_key jobs done job = list_all (λ other. not (other.key == job.key && nat_lt job.number other.number && is_done other.number done)) jobs

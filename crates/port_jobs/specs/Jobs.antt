-- What contracts see of a port's jobs, when that is what a history tells, and what submitting does.
use Rattle.std.specs.Prelude.{◌≡◌, ℕ, ◌+◌, ◌==◌, List, [], ◌∷◌, ◌++◌, length, map, Bool, true, false, ◌&&◌, not, nat_le, All}
use Rattle.std.specs.List.{count_by, range_with_len}
use Rattle.async_jobs.specs.declared.job.Job.{Job}
use Rattle.async_jobs.specs.Pool.{Lanes}
use Rattle.async_jobs.specs.Order.{AllSubmitted}
use Rattle.port_model.specs.declared.signal.Signal.{Signal}
use Rattle.port_model.specs.declared.signal.Signal.TheVariants.{AsyncDone}
use Rattle.port_model.specs.declared.effect.Effect.{Effect}
use Rattle.port_model.specs.declared.effect.Effect.TheVariants.{Async}
use Rattle.port_history.specs.Jobs.{Submitted, submitted_by, is_done}

pub record JobsView : Type 0 where
  -- the port's number, and its ends in the lanes of the workers
  pub port : ℕ
  pub lanes : Lanes
  -- how many jobs were submitted, which numbers were told done, by rising number, and how many of the submitted jobs weren't
  pub submitted : ℕ
  pub told : List ℕ
  pub waiting : ℕ

-- What is kept is what a history tells: its jobs are numbered 0, 1, 2 and so on, and these numbers were told done
pub record Agrees (view : JobsView) (jobs : List Submitted) (done : List ℕ) : Type 0 where
  pub count : view.submitted ≡ length jobs
  pub numbers : map (λ job. job.number) jobs ≡ range_with_len 0 (length jobs)
  pub told : (number : ℕ) → is_done number view.told ≡ is_done number done
  pub waiting : view.waiting ≡ count_by (λ job. not (is_done job.number done)) jobs

-- the signal tells a job done that wasn't told before
abbrev pub is_news : List ℕ → Signal → Bool
is_news told (AsyncDone number output) = not (is_done number told)
is_news told signal = false

-- the codes of jobs are 1, 2 and 3
abbrev pub is_code : ℕ → Bool
is_code code = nat_le 1 code && nat_le code 3

-- the jobs that the effects submit have the numbers from `next` on, in order, and codes of jobs
abbrev pub are_next : ℕ → List Effect → Bool
are_next next [] = true
are_next next (Async number key code input ∷ effects) = (number == next) && is_code code && are_next (next + 1) effects
are_next next (effect ∷ effects) = are_next next effects

-- a job as a history has it
abbrev pub submitted_as : Job → Submitted
submitted_as job = record { number = job.number; key = job.key; code = job.code; input = job.input }

-- these are the jobs of the port of this number that the effects submit, in order
pub record AreJobsOf (port : ℕ) (effects : List Effect) (jobs : List Job) : Type 0 where
  pub own : All (λ job. job.port ≡ port) jobs
  pub same : map submitted_as jobs ≡ submitted_by effects

-- the jobs of the effects went into the lanes of their workers, in order, and are counted
pub record Submits (old new : JobsView) (effects : List Effect) : Type 0 where
  pub port : new.port ≡ old.port
  pub lanes : (jobs : List Job) × AreJobsOf old.port effects jobs × AllSubmitted old.lanes jobs new.lanes
  pub submitted : new.submitted ≡ old.submitted + length (submitted_by effects)
  pub told : new.told ≡ old.told
  pub agrees : (jobs : List Submitted) (done : List ℕ) → Agrees old jobs done → Agrees new (jobs ++ submitted_by effects) done

-- the jobs of some first effects were submitted, and those of the others weren't
pub record SubmitsFront (old new : JobsView) (effects : List Effect) : Type 0 where
  pub front : List Effect
  pub rest : List Effect
  pub split : effects ≡ front ++ rest
  pub submits : Submits old new front

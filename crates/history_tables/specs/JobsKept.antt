-- The jobs of a driver, as a table keeps them.
use Rattle.std.specs.Prelude.{◌≡◌, ℕ, ◌==◌, ◌+◌, List, [], ◌∷◌, Bool, true, ◌&&◌, not, nat_lt, Option, Some, None, if◌then◌else◌}
use Rattle.std.specs.Ordering.{nat_cmp}
use Rattle.std.specs.BTreeSet.{contains}
use Rattle.std.specs.BTreeMap.{get}
use Rattle.port_model.specs.declared.effect.Effect.{Effect}
use Rattle.port_model.specs.declared.effect.Effect.TheVariants.{Async}
use Rattle.port_history.specs.Jobs.{Submitted, is_done}
use Rattle.history_tables.specs.declared.jobs.KeptJob.{KeptJob}
use Rattle.history_tables.specs.declared.jobs.JobTable.{JobTable}

abbrev pub job_of : ℕ → KeptJob → Submitted
job_of number job = record { number = number; key = job.key; code = job.code; input = job.input }

-- these jobs, numbered from the first number on
abbrev pub numbered : ℕ → List KeptJob → List Submitted
numbered first [] = []
numbered first (job ∷ jobs) = job_of first job ∷ numbered (first + 1) jobs

-- the job is no later one of the key that is done
abbrev pub no_later : ℕ → ℕ → List ℕ → Submitted → Bool
no_later key number done other = not (other.key == key && nat_lt number other.number && is_done other.number done)

-- the first of two that is there
abbrev pub first_of : Option ℕ → Option ℕ → Option ℕ
first_of None other = other
first_of (Some number) other = Some number

-- the job, where it has the key and is done
abbrev pub done_at : ℕ → List ℕ → Submitted → Option ℕ
done_at key done job = if job.key == key && is_done job.number done then Some job.number else None

-- the last job of the key that is done
abbrev pub latest_of : ℕ → List ℕ → List Submitted → Option ℕ
latest_of key done [] = None
latest_of key done (job ∷ jobs) = first_of (latest_of key done jobs) (done_at key done job)

-- the jobs that the effects submit have the numbers from `next` on, in order
abbrev pub are_next : ℕ → List Effect → Bool
are_next next [] = true
are_next next (Async number key code input ∷ effects) = (number == next) && are_next (next + 1) effects
are_next next (effect ∷ effects) = are_next next effects

-- the table has these jobs, whose numbers are 0, 1, 2 and so on, and those that were told done
pub record Keeps (table : JobTable) (jobs : List Submitted) (done : List ℕ) : Type 0 where
  pub submitted : jobs ≡ numbered 0 table.jobs.items
  pub done_are : (number : ℕ) → contains nat_cmp table.told number ≡ is_done number done
  pub latest_are : (key : ℕ) → get nat_cmp table.latest key ≡ latest_of key done jobs

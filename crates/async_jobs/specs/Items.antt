-- What lies in a worker's lane.
use Rattle.std.specs.Prelude.{ℕ, ◌==◌, List, [], ◌∷◌, filter}
use Rattle.async_jobs.specs.declared.job.Job.{Job}
use Rattle.async_jobs.specs.declared.job.WorkItem.{WorkItem}
use Rattle.async_jobs.specs.declared.job.WorkItem.TheVariants.{Work, Finish}

-- every item fits every lane of a worker, whoever puts it
abbrev pub AnyFits : Unit {0} → ℕ → WorkItem → Type 0
AnyFits key number item = Unit {0}

-- the jobs among items, in order
abbrev pub jobs_in : List WorkItem → List Job
jobs_in [] = []
jobs_in (Work job ∷ items) = job ∷ jobs_in items
jobs_in (Finish ∷ items) = jobs_in items

-- the jobs of a key, in order
abbrev pub with_key : ℕ → List Job → List Job
with_key key jobs = filter (λ j. j.key == key) jobs

-- the jobs of a key among items, in order
abbrev pub jobs_of : ℕ → List WorkItem → List Job
jobs_of key items = with_key key (jobs_in items)

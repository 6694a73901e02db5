-- What a worker's turns tell.
use Rattle.std.specs.Prelude.{◌≡◌, [], ◌∷◌, ◌++◌}
use Rattle.task_queue.specs.declared.item.Item.{Item}
use Rattle.task_queue.specs.Ends.{Taking, TookAll, WasEmpty}
use Rattle.async_jobs.specs.declared.job.Job.{Job}
use Rattle.async_jobs.specs.declared.job.Done.{Done}
use Rattle.async_jobs.specs.declared.job.WorkItem.{WorkItem}
use Rattle.async_jobs.specs.declared.job.WorkItem.TheVariants.{Work, Finish}
use Rattle.async_jobs.specs.declared.worker.Worked.{Worked}
use Rattle.async_jobs.specs.declared.worker.Worked.TheVariants as worked
use Rattle.async_jobs.specs.Items.{AnyFits}

-- what a worker's end shows
abbrev pub Worker : Type 0
Worker = Taking WorkItem (Unit {0})

-- what was done is this job. That the output is its work holds of every `Done`
pub record IsDoneOf (job : Job) (done : Done) : Type 0 where
  pub port : done.port ≡ job.port
  pub number : done.number ≡ job.number
  pub code : done.code ≡ job.code
  pub input : done.input ≡ job.input

-- one item was taken, with this value
abbrev pub Took : Worker → WorkItem → Worker → Type 0
Took old value new = (x : Item WorkItem) × (x.value ≡ value) × (new ≡ record old { taken = old.taken ++ x ∷ [] })

-- What a turn's answer tells: which item was taken, or that the lane was empty at a step, all that ended senders sent having been
-- taken
abbrev pub Turned : Worker → Worker → Worked → Type 0
Turned old new (worked.Did done) = (job : Job) × Took old (Work job) new × IsDoneOf job done
Turned old new worked.Empty = (new ≡ old) × WasEmpty AnyFits old × TookAll old
Turned old new worked.Finished = Took old Finish new
Turned old new (worked.NoMemory job) = Took old (Work job) new

-- The lanes of a pool, and what submitting does to them.
use Rattle.std.specs.Prelude.{◌≡◌, ◌≢◌, ℕ, ◌%◌, List, [], ◌∷◌, ◌++◌, length, slice_index_or}
use Rattle.task_queue.specs.Ends.{Sending}
use Rattle.async_jobs.specs.declared.job.Job.{Job}
use Rattle.async_jobs.specs.declared.job.WorkItem.{WorkItem}
use Rattle.async_jobs.specs.declared.job.WorkItem.TheVariants.{Work}

-- what a pool's end in the lane of a worker shows
abbrev pub PoolEnd : Type 0
PoolEnd = Sending WorkItem (Unit {0})

-- an end in the lane of each worker, in the order of the workers
abbrev pub Lanes : Type 0
Lanes = List PoolEnd

-- the place of the worker of a key
abbrev pub worker_of : Lanes → ℕ → ℕ
worker_of lanes key = key % length lanes

-- the same ends stand at the same places; what they sent may differ
pub record SameLanes (old new : Lanes) : Type 0 where
  pub workers : length new ≡ length old
  pub ends : (n : ℕ) (e : _) → slice_index_or new n e ≡ record (slice_index_or old n e) { sent = (slice_index_or new n e).sent }

-- the end of the key's worker has sent the job behind all else, and no other end has sent anything
pub record Submitted (old : Lanes) (job : Job) (new : Lanes) : Type 0 where
  pub workers : length new ≡ length old
  pub own : (e : _) → slice_index_or new (worker_of old job.key) e
      ≡ record (slice_index_or old (worker_of old job.key) e) { sent = (slice_index_or old (worker_of old job.key) e).sent ++ Work job ∷ [] }
  pub others : (n : ℕ) (e : _) → n ≢ worker_of old job.key → slice_index_or new n e ≡ slice_index_or old n e
